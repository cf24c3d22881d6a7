-- `word` looks at four bytes that a reference shows, as one array. Assumes `Logic`.
use Rattle.std.proofs.Common.{◌+◌, ◌≤◌, List, [], ◌∷◌, length, take, drop as drop_l, refl, w8, w64}
use Rattle.std.proofs.raw_atomic.Walks.{proved}
use base.Fml.{ftrue, fat, flft}
use mir.Syntax.{ty_int, ty_array, named}
use mir.Val.{Val}
use contract.Monad.{fact}
use contract.Running.{tables}
use types.Kit.{‵, raw, ◌⊛◌, some, at_ret, ◌$◌, ◌∵◌, !, qed, done, move, keep, drop, use1, use2, split, join, fsplit, fjoin, pick, suffices}
use types.Run.{enter, of_opd, bin, load, look, stop, fld, first, blocks, exec, returns}
use types.ByLocal.{alloc_all, pass_all, free_all, look_at, get, through, sets, sets_last, env}
use denote.Array.{Array, Array-Lawful, Array-Makes}
use denote.Builtin.{u8, usize, RefOf}
use denote.Copied.{uint_Copied}
use denote.Exit.{yes}
use denote.Index.{looks_slice, shuts_slice}
use denote.Laws.{Is, shows}
use denote.Memory.{part_at}
use denote.Plain.{uint_Makes, uint_Lawful, uint_vals, uint_Tells}
use denote.RattleType.{owns}
use denote.RawPtr.Bytes.{bytes}
use denote.Ref.{shr_vals, shr_Tells}
use denote.Signature.{Slot, plain, types_at}
use denote.Steps.{nothing, owned, heard, peeks}
use denote.Triple.Walked.{Stays, walk_of, says, stay_dropped, Goes-dropped, ends_at}
use borrow.Table.OneValue.{part_out, part_in}
use Rattle.core.proofs.slots.Bodies.{after}
use Rattle.core.proofs.slots.Lent.{pointer_in, pointer_out}
use Rattle.pli_region.proofs.Bytes.{Around, array_cut, array_back}
use Rattle.pli_region.proofs.Opens.{R, memory_shown}
use Rattle.pli_region.specs.contracts.memory.Memory.word as f
use Rattle.pli_region.proofs.memory.Memory.word.Statement.{statement}
use Rattle.pli_region.proofs.memory.Memory.word.Code as code

abbrev self : Slot 1
self = RefOf (0 ∷ []) tt (plain (λ _. R)) (λ _. tt)

abbrev stayed : Stays f.ended.signature.params f.ended.kept
stayed = (stay_dropped self yes, (stay_dropped (plain (λ _. usize)) yes, tt))

pub word_spec : {M : Type 1} → statement M
word_spec 𝓤 𝓛 𝓜 𝓡 wired =
    let c = f.clauses 𝓛 𝓜.mem 𝓡.returns in let W = walk_of 𝓛 f.ended stayed c in let 𝓣 = tables 𝓤 𝓛.H 𝓜 𝓡 𝓡.env in
    proved 𝓛 f.ended stayed c 𝓜 𝓡 (Goes-dropped 𝓛 1 self yes (λ κs x w. refl), (Goes-dropped 𝓛 1 (plain (λ _. usize)) yes (λ κs x w. refl), tt))
    f.Key.name code.function (code.unfolded 𝓤 𝓛.H 𝓜 𝓡 wired)
    (λ κs. (shr_vals, (uint_vals w64, tt))) (λ κs. (shr_Tells (named 0) κs.0 R, (uint_Tells w64, tt))) (λ κs qs bounds a _ are.
    let rb = a.0.ref_ptr.0 in let ro = a.0.ref_ptr.1 in let m = a.0.now in let at = a.1.0 in let xs = m.items in
    let ys = take 4 (drop_l at xs) in let Four = Array u8 4 in
    let vss : List Val × (List Val × Unit {0}) = (shr_vals a.0, (uint_vals w64 at, tt)) in let y : W.Ghost = ((κs, qs, bounds, a, vss), tt) in
    let Asked : Type 0 = at + 4 ≤ length xs in
    qed 𝓛 (((‵ (flft κs.0 qs.0) ⊛ ‵ ftrue) ⊛ ‵ (owns (types_at f.ended.signature.params κs) a vss)) ∷ raw (fact 𝓤 Asked) ∷ []) ∵
    move ! (1 ∷ []) $ heard ! Asked (λ asked. split ! $ split ! $ move ! (2 ∷ []) $ fsplit ! $ fsplit ! $ drop ! $
    memory_shown ! m rb ro (λ b o at_b fit. keep ! (0 ∷ 3 ∷ 1 ∷ []) $
    enter ! _ _ _ _ _ $ alloc_all ! (λ l. pass_all ! refl ((tt, tt), ((tt, record { fits = are.1.0.1 }), tt)) $
    -- [the pointer; the token; the bytes]
    first ! $ blocks ! $ pointer_in ! tt m.ptr b o at_b rb (ro + 0) (λ q.
    sets ! (of_opd ! (load ! (through ! refl (fld ! refl (stop !))) (look ! 0 refl))) refl (tt, tt) $
    pointer_out ! tt m.ptr b o at_b rb (ro + 0) $
    sets ! (bin ! (get ! refl) (get ! refl) tt) refl (tt, tt) $ sets ! (of_opd ! (get ! refl)) refl (tt, tt) $
    move ! (1 ∷ 0 ∷ []) $ looks_slice ! tt u8 (uint_Copied 𝓛 w8) xs b o (λ p.
    use1 𝓛 (‵ (part_at Four p ys b (at + o)) ⊛ ‵ (Around 𝓛 b o xs at 4 p)) (array_cut 𝓛 b o xs at 4 p asked) $ split ! $
    use1 𝓛 (some (λ (v : Val). ‵ (fat p (ty_array (ty_int w8) 4) b (at + o) v) ⊛ ‵ (Four.own_val ys (v ∷ [])))) (part_out 𝓛 Four refl p ys b (at + o)) $ pick ! (λ v. split ! $ move ! (1 ∷ []) $
    peeks ! Four (Is Four) (shows 𝓛 Four) ys (v ∷ []) (λ is. let good = ((Array-Lawful 𝓛 u8 (uint_Lawful 𝓛 w8) 4).typed ys (v ∷ []) is).0 in move ! (1 ∷ 0 ∷ []) $
    -- [the four bytes; what they own; the others; the way back; the bytes]
    sets_last ! (of_opd ! (load ! (through ! refl (stop !)) (look ! 0 refl))) refl good $
    exec ! 𝓣.C 𝓣.Λ (env code.Mir.locals l) (after 1 code.function.body) (at_ret _ (W.post y)) $ sets ! (of_opd ! (get ! refl)) refl good $
    use2 𝓛 (‵ (part_at Four p ys b (at + o))) (part_in 𝓛 Four refl p ys b (at + o) v) $
    use2 𝓛 (‵ (bytes p xs b o)) (array_back 𝓛 b o xs at 4 p asked) $ shuts_slice ! tt u8 p xs b o $
    returns ! (look_at ! 0 refl) $ free_all ! refl $ keep ! (0 ∷ []) $
    suffices ! _ (ends_at 𝓛 f.ended stayed c y v ys (tt, (tt, tt)) (tt, (tt, tt))) $ says ! refl $
    owned ! Four (Is Four) (Array-Makes 𝓛 u8 (uint_Makes 𝓛 w8) 4) ys (v ∷ []) is $
    nothing ! $ nothing ! $ fjoin ! $ nothing ! $ fjoin ! $ nothing ! $ move ! (3 ∷ 0 ∷ []) $ join ! $ done !))))))))
