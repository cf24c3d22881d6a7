-- `part_mut` lends some of the bytes, and the memory follows them. Assumes `Logic`.
use Rattle.std.proofs.Common.{◌≡◌, ℕ, ◌+◌, ◌*◌, ◌<◌, ◌≤◌, ◌^◌, List, [], ◌∷◌, length, take, drop as drop_l, refl, sym, ap, subst, ◌∙◌, w64, arith}
use Rattle.std.proofs.raw_atomic.Walks.{proved}
use Rattle.std.specs.List.{refill}
use seplogic.Ra.Ura.{Ura}
use base.Fraction.{full_share}
use base.Logic.{SProp, ent, sep}
use base.Fml.{Fml, GName, ftrue, fsep, flft, froom}
use mir.Syntax.{named}
use mir.Val.{Val}
use contract.Monad.{fact}
use contract.Running.{tables}
use types.Kit.{‵, raw, ◌⊛◌, some, later, at_ret, ◌$◌, ◌∵◌, !, qed, done, by, move, keep, use1, use2, split, join, group, rewrite, fsplit, fsplit3, fjoin, fjoin3, fpack, pick, await, suffices, frame}
use types.Logic.{Logic, sem}
use types.Part.{whole, sub, look_in, agg}
use types.Run.{enter, of_opd, bin, load, stop, fld, no_more, and_then, first, blocks, exec, returns}
use types.ByLocal.{alloc_all, pass_all, free_all, look_at, get, through, sets, sets_last, env}
use types.SemTy.{cells}
use denote.Builtin.{u8, usize}
use denote.Exit.{no, yes}
use denote.Array.{Array}
use denote.Follow.{follows}
use denote.FollowSlice.{Elements, lends_Elements}
use denote.Index.{whole_in, whole_out}
use denote.Memory.{cell_at, mem, part_of}
use denote.Plain.{uint_vals, uint_Tells}
use denote.RattleType.{owns}
use denote.RawPtr.{block_ptr}
use denote.RawPtr.Bytes.{bytes}
use denote.Ref.{MutBor, mut_vals, mut_Tells}
use denote.Signature.{plain, mut_ref_to, types_at}
use denote.Slice.{MutSlice, slice_val}
use denote.Steps.{nothing, heard}
use denote.Triple.Walked.{Stays, walk_of, says, stay_dropped, Goes-dropped, Goes-spent_ref, ends_at}
use Rattle.core.proofs.slots.Bodies.{after}
use Rattle.pli_region.proofs.Bytes.{Around, part_long, part_cut, part_glued, written_long, refill_all}
use Rattle.pli_region.proofs.Opens.{R, memory_val, memory_opens, memory_made}
use Rattle.pli_region.specs.Lends.{written}
use Rattle.pli_region.specs.Ownership.{block_of}
use Rattle.pli_region.specs.Words.{overwritten}
use Rattle.pli_region.specs.declared.memory.Memory.{Memory}
use Rattle.pli_region.specs.contracts.memory.Memory.part_mut as f
use Rattle.pli_region.proofs.memory.Memory.part_mut.Statement.{statement}
use Rattle.pli_region.proofs.memory.Memory.part_mut.Code as code

abbrev stayed : Stays f.ended.signature.params f.ended.kept
stayed = (stay_dropped (mut_ref_to (0 ∷ []) tt (plain (λ _. R))) no, (stay_dropped (plain (λ _. usize)) yes, (stay_dropped (plain (λ _. usize)) yes, tt)))

module _ {M : Type 1} {𝓤 : Ura M} (𝓛 : Logic 𝓤) (m : Memory) (from count b o rb ro : ℕ) where
  -- all but the part
  abbrev Rest : Fml
  Rest = fsep (Around 𝓛 b o m.items from count full_share) (fsep (froom (block_of m.room) b (o + length m.items)) (cell_at full_share R.mir (memory_val (block_ptr b o) ∷ []) rb ro))

  back : m.ptr ≡ block_ptr b o → length m.items + m.room < 2 ^ 63 → from + count ≤ length m.items → (ws : List ℕ) → length ws ≡ length (take count (drop_l from m.items))
      → ent 𝓤 (sep 𝓤 (sem 𝓛 (cells (mem u8) ws b (from + o))) (sem 𝓛 Rest)) (sem 𝓛 ((mem R).own_at (written m from count ws) rb ro))
  unfolding part_of
  back at_b fit le ws same =
      let xs = m.items in let new = written m from count ws in let old = take count (drop_l from xs) in
      let many : length ws ≡ count = same ∙ part_long xs from count le in
      let all : refill count old ws ≡ ws = refill_all count old ws many in
      let is : overwritten xs from ws ≡ new.items = ap (overwritten xs from) (sym all) in
      let long : length new.items ≡ length xs = ap length (sym is) ∙ written_long xs from ws (omega arith) in
      qed 𝓛 (‵ (cells (mem u8) ws b (from + o)) ∷ ‵ Rest ∷ []) ∵ use1 𝓛 (‵ (bytes full_share ws b (from + o))) (whole_out 𝓛 u8 ws b (from + o)) $
      move ! (1 ∷ []) $ fsplit3 ! $ move ! (3 ∷ 0 ∷ []) $
      use2 𝓛 (‵ (bytes full_share (overwritten xs from ws) b o)) (part_glued 𝓛 b o xs from count full_share le ws many) $
      rewrite ! 0 (λ (l : List ℕ). ‵ (bytes full_share l b o)) is refl $
      rewrite ! 1 (λ (k : ℕ). ‵ (froom (block_of m.room) b (o + k))) (sym long) refl $
      memory_made ! new b o at_b (subst (λ (k : ℕ). k + m.room < 2 ^ 63) (sym long) fit) $ move ! (1 ∷ 0 ∷ []) $ fjoin ! $
      fpack ! (List Val) (λ us. fsep (cell_at full_share R.mir us rb ro) (R.own_val new us)) (memory_val (block_ptr b o) ∷ []) $ done !

pub part_mut_spec : {M : Type 1} → statement M
part_mut_spec 𝓤 𝓛 𝓜 𝓡 wired =
    let c = f.clauses 𝓛 𝓜.mem 𝓡.returns in let W = walk_of 𝓛 f.ended stayed c in let 𝓣 = tables 𝓤 𝓛.H 𝓜 𝓡 𝓡.env in
    let goes = Goes-dropped 𝓛 1 (plain (λ _. usize)) yes (λ κs x w. refl) in
    proved 𝓛 f.ended stayed c 𝓜 𝓡 (Goes-spent_ref 𝓛 1 (0 ∷ []) tt (plain (λ _. R)), (goes, (goes, tt)))
    f.Key.name code.function (code.unfolded 𝓤 𝓛.H 𝓜 𝓡 wired)
    (λ κs. (mut_vals, (uint_vals w64, (uint_vals w64, tt)))) (λ κs. (mut_Tells (named 0) κs.0 R, (uint_Tells w64, (uint_Tells w64, tt)))) (λ κs qs bounds a _ are.
    let rb = a.0.ref_ptr.0 in let ro = a.0.ref_ptr.1 in let m = a.0.now in let from = a.1.0 in let count = a.1.1.0 in let xs = m.items in
    let ys = take count (drop_l from xs) in let γ = a.0.ghost_name in let gv = R.coded.code m in
    let vss : List Val × (List Val × (List Val × Unit {0})) = (mut_vals a.0, (uint_vals w64 from, (uint_vals w64 count, tt))) in let y : W.Ghost = ((κs, qs, bounds, a, vss), tt) in
    let Asked : Type 0 = from + count ≤ length xs in
    qed 𝓛 (((‵ (flft κs.0 qs.0) ⊛ ‵ ftrue) ⊛ ‵ (owns (types_at f.ended.signature.params κs) a vss)) ∷ raw (fact 𝓤 Asked) ∷ []) ∵
    move ! (1 ∷ []) $ heard ! Asked (λ asked. split ! $ split ! $ move ! (2 ∷ []) $ fsplit ! $ fsplit3 ! $ keep ! (1 ∷ 2 ∷ 4 ∷ []) $
    enter ! _ _ _ _ _ $ alloc_all ! (λ l. pass_all ! refl ((tt, tt), ((tt, record { fits = are.1.0.1 }), ((tt, record { fits = are.1.1.0.1 }), tt))) $
    memory_opens ! tt m rb ro (λ b o at_b fit.
    let at : ℕ × ℕ = (b, from + o) in let long = part_long xs from count asked in let way = back 𝓛 m from count b o rb ro at_b fit asked in
    let roomy : length ys < 2 ^ 64 = omega arith in let fitting : length ys * 1 < 2 ^ 63 = omega arith in
    use1 𝓛 (‵ (bytes full_share ys b (from + o)) ⊛ ‵ (Around 𝓛 b o xs from count full_share)) (part_cut 𝓛 b o xs from count full_share asked) $ split ! $
    -- [the part; the other bytes; the room; the pointer's cell; the open borrow; obs; auth]
    first ! $ blocks ! $
    sets ! (of_opd ! (load ! (through ! refl (fld ! refl (stop !))) (look_in ! 3 (sub ! 0 refl (whole !))))) refl (tt, tt) $
    sets ! (bin ! (get ! refl) (get ! refl) tt) refl (tt, tt) $
    sets_last ! (agg ! (and_then ! (get ! refl) (and_then ! (get ! refl) (no_more !)))) refl (tt, (tt, (record { fits = are.1.1.0.1 }, tt))) $
    exec ! 𝓣.C 𝓣.Λ (env code.Mir.locals l) (after 1 code.function.body) (at_ret _ (W.post y)) $ sets ! (of_opd ! (get ! refl)) refl (tt, (tt, (record { fits = are.1.1.0.1 }, tt))) $
    use1 𝓛 (‵ (cells (mem u8) ys b (from + o))) (whole_in 𝓛 u8 ys b (from + o)) $
    move ! (1 ∷ 2 ∷ 3 ∷ []) $ fjoin3 ! $ move ! (2 ∷ 3 ∷ 4 ∷ 1 ∷ 0 ∷ []) $ group ! 5 $
    use1 𝓛 (later (some (λ (δ : GName). raw (Elements 𝓛 R u8 (written m from count) (named 0) κs.0 qs.0 rb ro b (from + o) γ ys (roomy, fitting) (sem 𝓛 (Rest 𝓛 m from count b o rb ro)) way δ))))
    (lends_Elements 𝓛 R u8 (written m from count) (named 0) κs.0 qs.0 rb ro b (from + o) γ ys (roomy, fitting) (sem 𝓛 (Rest 𝓛 m from count b o rb ro)) way gv gv) $ await ! tt $ pick ! (λ δ.
    let r : MutBor (List ℕ) = record { ref_ptr = at; ghost_name = δ; now = ys } in
    let Lent : SProp 𝓤 = Elements 𝓛 R u8 (written m from count) (named 0) κs.0 qs.0 rb ro b (from + o) γ ys (roomy, fitting) (sem 𝓛 (Rest 𝓛 m from count b o rb ro)) way δ in
    let ends : ent 𝓤 Lent (W.post y (slice_val at (length ys))) =
    qed 𝓛 (‵ ((MutSlice (named 0) κs.0 u8).own_val r (slice_val at (length ys) ∷ [])) ∷ ‵ (flft κs.0 qs.0) ∷ ‵ (follows R (Array u8 0) γ δ (written m from count)) ∷ []) ∵
    suffices ! _ (ends_at 𝓛 f.ended stayed c y (slice_val at (length ys)) r (tt, (tt, (tt, tt))) (tt, (tt, (tt, tt)))) $
    nothing ! $ nothing ! $ fjoin ! $ nothing ! $ fjoin ! $ nothing ! $ fjoin ! $ join ! $ nothing ! $ move ! (2 ∷ 0 ∷ []) $ join ! $ join ! $ frame ! $ says ! refl $ done ! in
    returns ! (look_at ! 0 refl) $ free_all ! refl $ keep ! (0 ∷ []) $
    by ! (subst (λ (k : ℕ). ent 𝓤 Lent (W.post y (slice_val at k))) long ends))))))
