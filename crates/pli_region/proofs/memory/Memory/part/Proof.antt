-- `part` shows some of the bytes that a reference shows. Assumes `Logic`.
use Rattle.std.proofs.Common.{ℕ, ◌+◌, ◌*◌, ◌≤◌, ◌^◌, List, [], ◌∷◌, length, take, drop as drop_l, refl, sym, ap, w64, arith}
use Rattle.std.proofs.raw_atomic.Walks.{proved}
use base.Fml.{ftrue, flft}
use mir.Syntax.{named}
use mir.Val.{Val}
use contract.Monad.{fact}
use contract.Running.{tables}
use types.Kit.{‵, raw, ◌⊛◌, at_ret, ◌$◌, ◌∵◌, !, qed, done, move, keep, drop, use1, split, join, fsplit, fjoin, feq_i, flt_i, suffices}
use types.Part.{agg}
use types.Run.{enter, of_opd, bin, load, look, stop, fld, no_more, and_then, first, blocks, exec, returns}
use types.ByLocal.{alloc_all, pass_all, free_all, look_at, get, through, sets, sets_last, env}
use denote.Builtin.{u8, usize, RefOf}
use denote.Exit.{yes}
use denote.Opens.{hide, unhide}
use denote.Plain.{uint_vals, uint_Tells}
use denote.RattleType.{owns}
use denote.Ref.{shr_vals, shr_Tells}
use denote.Signature.{Slot, plain, types_at}
use denote.Slice.{elements_shared, slice_val}
use denote.Steps.{nothing, heard}
use denote.Triple.Walked.{Stays, walk_of, says, stay_dropped, Goes-dropped, ends_at}
use Rattle.core.proofs.slots.Bodies.{after}
use Rattle.core.proofs.slots.Lent.{pointer_in, pointer_out}
use Rattle.pli_region.proofs.Bytes.{part_long, part_seen}
use Rattle.pli_region.proofs.Opens.{R, memory_shown}
use Rattle.pli_region.specs.contracts.memory.Memory.part as f
use Rattle.pli_region.proofs.memory.Memory.part.Statement.{statement}
use Rattle.pli_region.proofs.memory.Memory.part.Code as code

abbrev self : Slot 1
self = RefOf (0 ∷ []) tt (plain (λ _. R)) (λ _. tt)

abbrev stayed : Stays f.ended.signature.params f.ended.kept
stayed = (stay_dropped self yes, (stay_dropped (plain (λ _. usize)) yes, (stay_dropped (plain (λ _. usize)) yes, tt)))

pub part_spec : {M : Type 1} → statement M
part_spec 𝓤 𝓛 𝓜 𝓡 wired =
    let c = f.clauses 𝓛 𝓜.mem 𝓡.returns in let W = walk_of 𝓛 f.ended stayed c in let 𝓣 = tables 𝓤 𝓛.H 𝓜 𝓡 𝓡.env in
    let goes = Goes-dropped 𝓛 1 (plain (λ _. usize)) yes (λ κs x w. refl) in
    proved 𝓛 f.ended stayed c 𝓜 𝓡 (Goes-dropped 𝓛 1 self yes (λ κs x w. refl), (goes, (goes, tt)))
    f.Key.name code.function (code.unfolded 𝓤 𝓛.H 𝓜 𝓡 wired)
    (λ κs. (shr_vals, (uint_vals w64, (uint_vals w64, tt)))) (λ κs. (shr_Tells (named 0) κs.0 R, (uint_Tells w64, (uint_Tells w64, tt)))) (λ κs qs bounds a _ are.
    let rb = a.0.ref_ptr.0 in let ro = a.0.ref_ptr.1 in let m = a.0.now in let from = a.1.0 in let count = a.1.1.0 in let xs = m.items in
    let ys = take count (drop_l from xs) in
    let vss : List Val × (List Val × (List Val × Unit {0})) = (shr_vals a.0, (uint_vals w64 from, (uint_vals w64 count, tt))) in let y : W.Ghost = ((κs, qs, bounds, a, vss), tt) in
    let Asked : Type 0 = from + count ≤ length xs in
    qed 𝓛 (((‵ (flft κs.0 qs.0) ⊛ ‵ ftrue) ⊛ ‵ (owns (types_at f.ended.signature.params κs) a vss)) ∷ raw (fact 𝓤 Asked) ∷ []) ∵
    move ! (1 ∷ []) $ heard ! Asked (λ asked. split ! $ split ! $ move ! (2 ∷ []) $ fsplit ! $ fsplit ! $ drop ! $
    memory_shown ! m rb ro (λ b o at_b fit. keep ! (0 ∷ 3 ∷ 1 ∷ []) $
    let long = part_long xs from count asked in let at : ℕ × ℕ = (b, from + o) in
    enter ! _ _ _ _ _ $ alloc_all ! (λ l. pass_all ! refl ((tt, tt), ((tt, record { fits = are.1.0.1 }), ((tt, record { fits = are.1.1.0.1 }), tt))) $
    -- [the pointer; the token; the bytes]
    first ! $ blocks ! $ pointer_in ! tt m.ptr b o at_b rb (ro + 0) (λ q.
    sets ! (of_opd ! (load ! (through ! refl (fld ! refl (stop !))) (look ! 0 refl))) refl (tt, tt) $
    pointer_out ! tt m.ptr b o at_b rb (ro + 0) $
    sets ! (bin ! (get ! refl) (get ! refl) tt) refl (tt, tt) $
    sets_last ! (agg ! (and_then ! (get ! refl) (and_then ! (get ! refl) (no_more !)))) refl (tt, (tt, (record { fits = are.1.1.0.1 }, tt))) $
    exec ! 𝓣.C 𝓣.Λ (env code.Mir.locals l) (after 1 code.function.body) (at_ret _ (W.post y)) $ sets ! (of_opd ! (get ! refl)) refl (tt, (tt, (record { fits = are.1.1.0.1 }, tt))) $
    returns ! (look_at ! 0 refl) $ free_all ! refl $ keep ! (1 ∷ 0 ∷ []) $ unhide ! $
    use1 𝓛 (‵ (elements_shared u8 ys b (from + o) κs.0)) (part_seen 𝓛 b κs.0 xs from count o (omega arith)) $ hide ! $
    flt_i ! (length ys * 1) (2 ^ 63) (omega arith) $ flt_i ! (length ys) (2 ^ 64) (omega arith) $ fjoin ! $
    feq_i ! (List Val) (slice_val at count ∷ []) (slice_val at (length ys) ∷ []) (ap (λ k. slice_val at k ∷ []) (sym long)) $ fjoin ! $ fjoin ! $
    suffices ! _ (ends_at 𝓛 f.ended stayed c y (slice_val at count) (record { ref_ptr = at; now = ys }) (tt, (tt, (tt, tt))) (tt, (tt, (tt, tt)))) $ says ! refl $
    nothing ! $ nothing ! $ fjoin ! $ nothing ! $ fjoin ! $ nothing ! $ fjoin ! $ nothing ! $ move ! (3 ∷ 0 ∷ []) $ join ! $ done !)))))
