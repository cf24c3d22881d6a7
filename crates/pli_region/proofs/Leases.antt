-- The right to give memory back is taken apart and made; the parts of a body that walks name. Assumes `Logic`.
use Rattle.std.proofs.Common.{◌≡◌, ℕ, zero, suc, List, [], ◌∷◌, ◌++◌, refl, ◌∙◌}
use seplogic.Ra.Ura.{Ura}
use mir.Syntax.{Body}
use mir.Val.{Val, vstruct, vcons, vnil, of_list}
use prog.Wp.{Env, Calls, Loops, Wp, after_seq, after_block}
use types.Logic.{Logic}
use types.Kit.{Item, Goal, Step, step, Post, any_q, post, ‵, ◌$◌, fjoin}
use denote.Builtin.{unit}
use denote.Param.{param}
use denote.RattleType.{RattleType}
use denote.Shadow.{shadow, pure_i}
use denote.Signature.{Slot, plain}
use denote.Struct.Owning.{shape}
use denote.Struct.Struct.{Struct}
use Rattle.core.specs.declared.alloc.Allocator.{Ghosts}
use Rattle.pli_region.specs.Ownership.{block_of}
use Rattle.pli_region.specs.contracts.memory.Lease as C

abbrev pub slot_at : {n : ℕ} → ℕ → List (Slot n) → Slot n
slot_at k [] = plain (λ _. unit)
slot_at zero (s ∷ ss) = s
slot_at (suc k) (s ∷ ss) = slot_at k ss

abbrev pub lease_val : Val
lease_val = vstruct (vcons (vstruct vnil) vnil)

-- it is the only value of a lease
pub lease_told : (A : RattleType) (g : Ghosts A.Denot) (vs : List Val) → shadow ((Struct (shape (C.the_type A g))).own_val (tt, tt) vs) → vs ≡ lease_val ∷ []
lease_told A g vs s = s.1.0 ∙ (λ i. vstruct (of_list (s.1.1.0.1.0 i ++ [])) ∷ [])

module _ {M : Type 1} {𝓤 : Ura M} (𝓛 : Logic 𝓤) where
  open 𝓛 use {H}

  abbrev pub then_runs : Calls 𝓤 H → Loops 𝓤 H → Env 𝓤 H → Body → Post 𝓤 H → Post 𝓤 H
  then_runs C Λ E b q = any_q (after_seq 𝓤 H (Wp 𝓤 H C Λ E b (post 𝓤 H q)) (post 𝓤 H q))

  abbrev pub out_of_block : Post 𝓤 H → Post 𝓤 H
  out_of_block q = any_q (after_block 𝓤 H (post 𝓤 H q))

module _ (A : RattleType) (g : Ghosts A.Denot) where
  abbrev Lr : RattleType
  Lr = C.the_row (param 0 A) g

  -- what the lease owns is the allocator's token
  pub lease_made : {M : Type 1} {𝓤 : Ura M} {𝓛 : Logic 𝓤} {K : Type 0} {Γ : List (Item 𝓤)} {G : Goal 𝓤 𝓛.H} → K → (k : Lr.Denot)
      → Step K 𝓛 (‵ (Lr.own_val k (lease_val ∷ [])) ∷ Γ) G (‵ (g.dealloc_token k.alloc (block_of k.size) k.ptr) ∷ Γ) G
  lease_made t k = step (λ s.
      pure_i t ((Struct (shape (C.the_type (param 0 A) g))).own_val (tt, tt) (lease_val ∷ [])) (λ vss. (tt, ((λ uss. (tt, tt)), tt)))
      ((vstruct vnil ∷ [], tt), (refl, ((tt, (refl, tt)), tt))) $ fjoin t $ s)
