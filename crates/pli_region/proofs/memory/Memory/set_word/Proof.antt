-- `set_word` writes four bytes as one array. Assumes `Logic`.
use Rattle.std.proofs.Common.{ℕ, ◌+◌, ◌<◌, ◌≤◌, ◌^◌, List, [], ◌∷◌, length, take, drop as drop_l, refl, sym, subst, w8, w64, arith}
use Rattle.std.proofs.raw_atomic.Walks.{proved}
use base.Fraction.{full_share}
use base.Fml.{ftrue, fat, flft, froom}
use mir.Syntax.{ty_int, ty_array, named}
use mir.Val.{Val, vunit}
use contract.Monad.{fact}
use contract.Running.{tables}
use types.Kit.{‵, raw, ◌⊛◌, some, at_ret, ◌$◌, ◌∵◌, !, qed, done, move, keep, drop, use1, use2, split, join, rewrite, fsplit, fsplit3, fjoin, fjoin3, feq_i, pick, suffices}
use types.Part.{whole, sub, look_in}
use types.Run.{enter, of_opd, unit_lit, bin, load, store, stop, fld, assigns_last, first, blocks, exec, returns}
use types.ByLocal.{alloc_all, pass_all, free_all, look_at, get, through, sets, env}
use denote.Array.{Array, Array-Lawful, Array-Makes, Array-Tells, array_val, array_vals}
use denote.Builtin.{u8, usize, ArrayOf}
use denote.Exit.{yes}
use denote.Laws.{Is}
use denote.Memory.{part_at}
use denote.Plain.{uint_Makes, uint_Lawful, uint_vals, uint_Tells}
use denote.RattleType.{owns}
use denote.RawPtr.Bytes.{bytes}
use denote.Ref.{mut_vals, mut_Tells}
use denote.Signature.{Slot, plain, types_at}
use denote.Steps.{nothing, owned, heard}
use denote.Triple.Walked.{Stays, walk_of, stay_dropped, stay_ref, Goes-dropped, Goes-ref, ends_at}
use borrow.Table.OneValue.{part_out, part_in}
use Rattle.core.proofs.mem.Facts.{says_three}
use Rattle.core.proofs.slots.Bodies.{after}
use Rattle.pli_region.proofs.Bytes.{Around, array_cut, array_glued, written_long}
use Rattle.pli_region.proofs.Opens.{R, memory_opens, memory_closes}
use Rattle.pli_region.specs.Ownership.{block_of}
use Rattle.pli_region.specs.Words.{overwritten}
use Rattle.pli_region.specs.declared.memory.Memory.{Memory}
use Rattle.pli_region.specs.contracts.memory.Memory.set_word as f
use Rattle.pli_region.proofs.memory.Memory.set_word.Statement.{statement}
use Rattle.pli_region.proofs.memory.Memory.set_word.Code as code

abbrev four : Slot 1
four = ArrayOf (plain (λ _. u8)) (λ _. tt) 4

abbrev stayed : Stays f.ended.signature.params f.ended.kept
stayed = (stay_ref (0 ∷ []) tt (plain (λ _. R)), (stay_dropped (plain (λ _. usize)) yes, (stay_dropped four yes, tt)))

pub set_word_spec : {M : Type 1} → statement M
set_word_spec 𝓤 𝓛 𝓜 𝓡 wired =
    let c = f.clauses 𝓛 𝓜.mem 𝓡.returns in let W = walk_of 𝓛 f.ended stayed c in let 𝓣 = tables 𝓤 𝓛.H 𝓜 𝓡 𝓡.env in
    proved 𝓛 f.ended stayed c 𝓜 𝓡 (Goes-ref 𝓛 1 0 tt (plain (λ _. R)), (Goes-dropped 𝓛 1 (plain (λ _. usize)) yes (λ κs x w. refl), (Goes-dropped 𝓛 1 four yes (λ κs x w. refl), tt)))
    f.Key.name code.function (code.unfolded 𝓤 𝓛.H 𝓜 𝓡 wired)
    (λ κs. (mut_vals, (uint_vals w64, (array_vals (uint_vals w8), tt)))) (λ κs. (mut_Tells (named 0) κs.0 R, (uint_Tells w64, (Array-Tells u8 (uint_vals w8) (uint_Tells w8) 4, tt)))) (λ κs qs bounds a _ are.
    let rb = a.0.ref_ptr.0 in let ro = a.0.ref_ptr.1 in let m = a.0.now in let at = a.1.0 in let ws = a.1.1.0 in let xs = m.items in
    let ys = take 4 (drop_l at xs) in let Four = Array u8 4 in
    let w : Val = array_val (mathlib.Core.List.map (λ x. mir.Val.vint w8 x) ws) in
    let vss : List Val × (List Val × (List Val × Unit {0})) = (mut_vals a.0, (uint_vals w64 at, (array_vals (uint_vals w8) ws, tt))) in let y : W.Ghost = ((κs, qs, bounds, a, vss), tt) in
    let good = ((Array-Lawful 𝓛 u8 (uint_Lawful 𝓛 w8) 4).typed ws (w ∷ []) are.1.1.0).0 in
    let new : Memory = record { ptr = m.ptr; items = overwritten xs at ws; room = m.room } in
    let Asked : Type 0 = at + 4 ≤ length xs in
    qed 𝓛 (((‵ (flft κs.0 qs.0) ⊛ ‵ ftrue) ⊛ ‵ (owns (types_at f.ended.signature.params κs) a vss)) ∷ raw (fact 𝓤 Asked) ∷ []) ∵
    move ! (1 ∷ []) $ heard ! Asked (λ asked. split ! $ split ! $ move ! (2 ∷ []) $ fsplit ! $ fsplit3 ! $ keep ! (1 ∷ 2 ∷ 4 ∷ []) $
    enter ! _ _ _ _ _ $ alloc_all ! (λ l. pass_all ! refl ((tt, tt), ((tt, record { fits = are.1.0.1 }), (good, tt))) $
    memory_opens ! tt m rb ro (λ b o at_b fit.
    use1 𝓛 (‵ (part_at Four full_share ys b (at + o)) ⊛ ‵ (Around 𝓛 b o xs at 4 full_share)) (array_cut 𝓛 b o xs at 4 full_share asked) $ split ! $
    use1 𝓛 (some (λ (v : Val). ‵ (fat full_share (ty_array (ty_int w8) 4) b (at + o) v) ⊛ ‵ (Four.own_val ys (v ∷ [])))) (part_out 𝓛 Four refl full_share ys b (at + o)) $ pick ! (λ v. split ! $ move ! (1 ∷ []) $ drop ! $
    -- [the four bytes; the others; the room; the pointer's cell]
    first ! $ blocks ! $
    sets ! (of_opd ! (load ! (through ! refl (fld ! refl (stop !))) (look_in ! 3 (sub ! 0 refl (whole !))))) refl (tt, tt) $
    sets ! (bin ! (get ! refl) (get ! refl) tt) refl (tt, tt) $ sets ! (of_opd ! (get ! refl)) refl (tt, tt) $
    assigns_last ! (of_opd ! (get ! refl)) (through ! refl (stop !)) (store ! 0 refl good) $
    exec ! 𝓣.C 𝓣.Λ (env code.Mir.locals l) (after 1 code.function.body) (at_ret _ (W.post y)) $ sets ! (of_opd ! (unit_lit !)) refl (tt, tt) $
    owned ! Four (Is Four) (Array-Makes 𝓛 u8 (uint_Makes 𝓛 w8) 4) ws (w ∷ []) are.1.1.0 $ move ! (1 ∷ 0 ∷ []) $
    use2 𝓛 (‵ (part_at Four full_share ws b (at + o))) (part_in 𝓛 Four refl full_share ws b (at + o) w) $
    use2 𝓛 (‵ (bytes full_share (overwritten xs at ws) b o)) (array_glued 𝓛 b o xs at 4 full_share asked ws) $
    let long = written_long xs at ws (omega (arith, asked, are.1.1.0.1.0.1)) in move ! (1 ∷ []) $
    rewrite ! 0 (λ (k : ℕ). ‵ (froom (block_of m.room) b (o + k))) (sym long) refl $ move ! (1 ∷ 0 ∷ []) $
    memory_closes ! tt new b o rb ro at_b (subst (λ (k : ℕ). k + m.room < 2 ^ 63) (sym long) fit) $
    returns ! (look_at ! 0 refl) $ free_all ! refl $
    suffices ! _ (ends_at 𝓛 f.ended stayed c y vunit tt (new, (tt, (tt, tt))) (tt, (tt, (tt, tt)))) $ says_three ! (refl, refl, refl) $
    feq_i ! (List Val) (mut_vals a.0) (mut_vals a.0) refl $ fjoin3 ! $ nothing ! $ nothing ! $ fjoin ! $ nothing ! $ fjoin ! $ move ! (1 ∷ 0 ∷ []) $ fjoin ! $
    nothing ! $ move ! (2 ∷ 0 ∷ []) $ join ! $ feq_i ! (List Val) (vunit ∷ []) (vunit ∷ []) refl $ keep ! (1 ∷ 2 ∷ 0 ∷ []) $ done !)))))
