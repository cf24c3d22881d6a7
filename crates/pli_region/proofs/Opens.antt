-- What memory owns is taken apart and made, and a reference to it is opened and closed. Assumes `Logic`.
use mathlib.Core.Path.{◌≡◌, refl, sym, ap, ◌∙◌}
use Prim.Native.Nat.{ℕ, ◌+◌, ◌<◌, ◌^◌}
use mathlib.Core.List.{List, [], ◌∷◌, ◌++◌}
use lib.ListN.{length}
use seplogic.Ra.Ura.{Ura}
use base.Fraction.{full_share}
use base.Logic.{id⊢, never}
use base.Stored.{Gv}
use base.Fml.{Lft, GName, Share, fsep, flft, fobs, fauth, fbor, fobor, froom, fhide}
use mir.Val.{Val, vptr, vstruct, vcons, vnil, of_list}
use types.Logic.{Logic}
use types.Kit.{Goal, Soaks, Step, step, Seq, Item, ‵, ◌⊛◌, ◌$◌, move, drop, use1, split, rewrite, fsplit, fjoin, fpick, fpack, feq_l, feq_i, flt_l, flt_i}
use types.SemTy.{Body}
use denote.Builtin.{u8}
use denote.Memory.{cell_at, mem, shared_of, hidden_shr}
use denote.Opens.{hide, unhide}
use denote.RattleType.{RattleType, Valss}
use denote.RawPtr.{Ptr, RawPtr, block_ptr, ptr_val, in_a_block}
use denote.RawPtr.Bytes.{bytes}
use denote.Slice.{elements_shared}
use denote.Steps.{opens, closes, nothing}
use denote.Struct.Lending.{lent_out}
use denote.Struct.Owning.{shape}
use denote.Struct.Struct.{Struct, within}
use Rattle.pli_region.specs.Ownership.{block_of, owned, lent}
use Rattle.pli_region.specs.contracts.memory.Memory as C
use Rattle.pli_region.specs.declared.memory.Memory.{Memory}

abbrev pub R : RattleType
R = C.the_row

-- the pointer alone, as a plain struct
abbrev pub Word : RattleType
Word = Struct (shape C.the_type)

abbrev pub memory_val : Ptr → Val
memory_val p = vstruct (vcons (ptr_val p) vnil)

module _ {M : Type 1} {𝓤 : Ura M} {𝓛 : Logic 𝓤} {K : Type 0} {Γ : List (Item 𝓤)} {G : Goal 𝓤 𝓛.H} where
  -- [the bytes; the room after them]
  pub memory_had : K → (m : Memory) (vs : List Val)
      → ((b o : ℕ) → m.ptr ≡ block_ptr b o → vs ≡ memory_val (block_ptr b o) ∷ [] → length m.items + m.room < 2 ^ 63
      → Seq K 𝓛 (‵ (bytes full_share m.items b o) ∷ ‵ (froom (block_of m.room) b (o + length m.items)) ∷ Γ) G)
      → Seq K 𝓛 (‵ (R.own_val m vs) ∷ Γ) G
  memory_had t m vs k =
      fsplit t $ fpick t (λ vss. fsplit t $ feq_l t (λ all. fsplit t $ feq_l t (λ e₀. drop t $
      in_a_block t m.ptr (λ p. owned p m.items m.room) (id⊢ 𝓤 (never 𝓤)) (λ b o e. fsplit t $ flt_l t (λ fit. fsplit t $
      k b o e (all ∙ ((λ i. vstruct (of_list (e₀ i ++ [])) ∷ []) ∙ ap (λ (p : Ptr). memory_val p ∷ []) e)) fit)))))

  pub memory_made : K → (m : Memory) (b o : ℕ) → m.ptr ≡ block_ptr b o → length m.items + m.room < 2 ^ 63
      → Step K 𝓛 (‵ (R.own_val m (memory_val (block_ptr b o) ∷ [])) ∷ Γ) G
      (‵ (bytes full_share m.items b o) ∷ ‵ (froom (block_of m.room) b (o + length m.items)) ∷ Γ) G
  memory_made t m b o at fit = step (λ s.
      fjoin t $ flt_i t (length m.items + m.room) (2 ^ 63) fit $ fjoin t $
      nothing t $ feq_i t (List Val) (vptr b o ∷ []) (vptr b o ∷ []) refl $ fjoin t $ feq_i t (List Val) (memory_val (block_ptr b o) ∷ []) (memory_val (block_ptr b o) ∷ []) refl $ fjoin t $
      fpack t (Valss (shape C.the_type).fields) (within (shape C.the_type) (block_ptr b o, tt) (memory_val (block_ptr b o) ∷ [])) (vptr b o ∷ [], tt) $ fjoin t $
      rewrite t 0 (λ (p : Ptr). ‵ (fsep (Word.own_val (p, tt) (memory_val (block_ptr b o) ∷ [])) (owned p m.items m.room))) (sym at) refl $ s)

module _ {M : Type 1} {𝓤 : Ura M} {𝓛 : Logic 𝓤} {K : Type 0} {Γ : List (Item 𝓤)} {G : Goal 𝓤 𝓛.H} where
  -- [the bytes; the room after them; the pointer's cell; the open borrow; obs; auth]
  pub memory_opens : K → Soaks G → {κ : Lft} {q : Share} {γ : GName} (m : Memory) (rb ro : ℕ)
      → ((b o : ℕ) → m.ptr ≡ block_ptr b o → length m.items + m.room < 2 ^ 63
      → Seq K 𝓛 (‵ (bytes full_share m.items b o) ∷ ‵ (froom (block_of m.room) b (o + length m.items)) ∷ ‵ (cell_at full_share R.mir (memory_val (block_ptr b o) ∷ []) rb ro) ∷ ‵ (fobor κ q (Body (mem R) rb ro γ)) ∷ ‵ (fobs γ (R.coded.code m)) ∷ ‵ (fauth γ (R.coded.code m)) ∷ Γ) G)
      → Seq K 𝓛 (‵ (fobs γ (R.coded.code m)) ∷ ‵ (fbor κ (Body (mem R) rb ro γ)) ∷ ‵ (flft κ q) ∷ Γ) G
  memory_opens t z m rb ro k =
      opens t z R {h = m} rb ro (λ vs. move t (1 ∷ []) $ memory_had t m vs (λ b o e is fit.
      rewrite t 2 (λ (ws : List Val). ‵ (cell_at full_share R.mir ws rb ro)) is refl $ k b o e fit))

  pub memory_closes : K → Soaks G → {κ : Lft} {q : Share} {u v : Gv} {γ : GName} (m : Memory) (b o rb ro : ℕ) → m.ptr ≡ block_ptr b o → length m.items + m.room < 2 ^ 63
      → Step K 𝓛 (‵ (fobs γ (R.coded.code m)) ∷ ‵ (fbor κ (Body (mem R) rb ro γ)) ∷ ‵ (flft κ q) ∷ Γ) G
      (‵ (bytes full_share m.items b o) ∷ ‵ (froom (block_of m.room) b (o + length m.items)) ∷ ‵ (cell_at full_share R.mir (memory_val (block_ptr b o) ∷ []) rb ro) ∷ ‵ (fobor κ q (Body (mem R) rb ro γ)) ∷ ‵ (fobs γ u) ∷ ‵ (fauth γ v) ∷ Γ) G
  memory_closes t z m b o rb ro at fit = step (λ s.
      memory_made t m b o at fit $ move t (1 ∷ 0 ∷ []) $ closes t z R m (memory_val (block_ptr b o) ∷ []) rb ro $ s)

  -- [a reference to the pointer; one to the bytes]
  pub memory_shown : K → {κ : Lft} (m : Memory) (rb ro : ℕ)
      → ((b o : ℕ) → m.ptr ≡ block_ptr b o → length m.items + m.room < 2 ^ 63
      → Seq K 𝓛 (‵ (hidden_shr RawPtr κ m.ptr rb (ro + 0)) ∷ ‵ (fhide (elements_shared u8 m.items b o κ)) ∷ Γ) G)
      → Seq K 𝓛 (‵ (hidden_shr R κ m rb ro) ∷ Γ) G
  memory_shown t {κ} m rb ro k =
      use1 𝓛 (‵ (hidden_shr Word κ (m.ptr, tt) rb ro) ⊛ ‵ (fhide (lent m.ptr m.items m.room κ))) (lent_out 𝓛 C.struct C.the_codes C.the_heap C.the_lent κ m rb ro) $ split t $
      unhide t $ fsplit t $ fsplit t $ move t (1 ∷ 2 ∷ []) $ drop t $ drop t $ hide t {P = shared_of RawPtr m.ptr rb (ro + 0) κ} $ move t (1 ∷ []) $ unhide t $
      in_a_block t m.ptr (λ p. lent p m.items m.room κ) (id⊢ 𝓤 (never 𝓤)) (λ b o e. fsplit t $ flt_l t (λ fit. hide t $ move t (1 ∷ 0 ∷ []) $ k b o e fit))
