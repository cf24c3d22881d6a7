-- `copy` hands a part that a reference shows, and one of its own, to `copy_bytes`. Assumes `Logic`.
use Rattle.std.proofs.Common.{◌≡◌, ℕ, ◌+◌, ◌<◌, ◌≤◌, ◌^◌, List, [], ◌∷◌, length, take, drop as drop_l, refl, sym, ap, subst, w8, w64, arith}
use Rattle.std.proofs.raw_atomic.Walks.{proved}
use lib.Dec.{T}
use base.Fraction.{full_share}
use base.Logic.{emp, id⊢}
use base.Fml.{ftrue, fsep, flft, froom}
use mir.Syntax.{named, ty_unit}
use mir.Val.{Val, vunit, vint, vptr, has_ty, WT}
use contract.Monad.{fact, fact_i}
use contract.Running.{tables}
use types.Kit.{‵, raw, ◌⊛◌, some, later, at_ret, ◌$◌, ◌∵◌, !, qed, done, move, keep, drop, use0, use1, use2, split, split3, join, rewrite, fsplit, fsplit3, fjoin, fjoin3, feq_i, feq_l, flt_i, pick, await, suffices}
use types.Part.{whole, sub, look_in}
use types.Run.{enter, of_opd, unit_lit, bin, load, look, stop, fld, no_more, and_then, first, blocks, exec, returns}
use types.ByLocal.{alloc_all, pass_all, free_all, look_at, get, through, sets, lands_last, env}
use denote.Builtin.{u8, usize, unit, RefOf}
use denote.Copied.{uint_Copied}
use denote.Exit.{yes}
use denote.Index.{looks_slice, shuts_slice}
use denote.Plain.{uint_vals, uint_Tells}
use denote.RattleType.{owns}
use denote.RawPtr.{block_ptr}
use denote.RawPtr.Bytes.{bytes}
use denote.Ref.{mut_vals, mut_Tells, shr_vals, shr_Tells}
use denote.Signature.{Slot, plain, types_at}
use denote.Steps.{nothing, heard, only}
use denote.Triple.Call.{calls_at_last}
use denote.Triple.Clauses.{lasts}
use denote.Triple.Spec.{triple_of}
use denote.Triple.Table.{framed}
use denote.Triple.Walked.{Stays, walk_of, stay_dropped, stay_ref, Goes-dropped, Goes-ref, ends_at}
use Rattle.core.proofs.mem.Facts.{says_three}
use Rattle.core.proofs.slots.Bodies.{after}
use Rattle.core.proofs.slots.Lent.{pointer_in, pointer_out}
use Rattle.pli_region.proofs.Bytes.{Around, part_long, part_cut, part_back, part_glued, written_long}
use Rattle.pli_region.proofs.Opens.{R, memory_opens, memory_closes, memory_shown}
use Rattle.pli_region.specs.Ownership.{block_of}
use Rattle.pli_region.specs.Words.{overwritten}
use Rattle.pli_region.specs.declared.memory.Memory.{Memory}
use Rattle.pli_region.specs.contracts.memory.copy_bytes as callee
use Rattle.pli_region.proofs.memory.copy_bytes.Met.{met}
use Rattle.pli_region.specs.contracts.memory.Memory.copy as f
use Rattle.pli_region.proofs.memory.Memory.copy.Statement.{statement}
use Rattle.pli_region.proofs.memory.Memory.copy.Code as code

abbrev other : Slot 2
other = RefOf (1 ∷ []) tt (plain (λ _. R)) (λ _. tt)

abbrev stayed : Stays f.ended.signature.params f.ended.kept
stayed = (stay_ref (0 ∷ []) tt (plain (λ _. R)), (stay_dropped other yes, (stay_dropped (plain (λ _. usize)) yes, (stay_dropped (plain (λ _. usize)) yes, (stay_dropped (plain (λ _. usize)) yes, tt)))))

pub copy_spec : {M : Type 1} → statement M
copy_spec 𝓤 𝓛 𝓜 𝓡 wired =
    let c = f.clauses 𝓛 𝓜.mem 𝓡.returns in let W = walk_of 𝓛 f.ended stayed c in let 𝓣 = tables 𝓤 𝓛.H 𝓜 𝓡 𝓡.env in
    let goes = Goes-dropped 𝓛 2 (plain (λ _. usize)) yes (λ κs x w. refl) in
    proved 𝓛 f.ended stayed c 𝓜 𝓡 (Goes-ref 𝓛 2 0 tt (plain (λ _. R)), (Goes-dropped 𝓛 2 other yes (λ κs x w. refl), (goes, (goes, (goes, tt)))))
    f.Key.name code.function (code.unfolded 𝓤 𝓛.H 𝓜 𝓡 wired)
    (λ κs. (mut_vals, (shr_vals, (uint_vals w64, (uint_vals w64, (uint_vals w64, tt)))))) (λ κs. (mut_Tells (named 0) κs.0 R, (shr_Tells (named 1) κs.1.0 R, (uint_Tells w64, (uint_Tells w64, (uint_Tells w64, tt)))))) (λ κs qs bounds a _ are.
    let rb = a.0.ref_ptr.0 in let ro = a.0.ref_ptr.1 in let m = a.0.now in let xs = m.items in
    let sb = a.1.0.ref_ptr.0 in let so = a.1.0.ref_ptr.1 in let m' = a.1.0.now in let zs = m'.items in
    let from = a.1.1.0 in let at = a.1.1.1.0 in let n = a.1.1.1.1.0 in
    let vss : List Val × (List Val × (List Val × (List Val × (List Val × Unit {0})))) = (mut_vals a.0, (shr_vals a.1.0, (uint_vals w64 from, (uint_vals w64 at, (uint_vals w64 n, tt))))) in
    let y : W.Ghost = ((κs, qs, bounds, a, vss), tt) in
    let ws = take n (drop_l from zs) in let old = take n (drop_l at xs) in
    let new : Memory = record { ptr = m.ptr; items = overwritten xs at ws; room = m.room } in
    let There : Type 0 = from + n ≤ length zs in let Here : Type 0 = at + n ≤ length xs in
    let fn = are.1.1.1.1.0.1 in
    qed 𝓛 (((‵ (flft κs.0 qs.0) ⊛ ‵ (flft κs.1.0 qs.1.0) ⊛ ‵ ftrue) ⊛ ‵ (owns (types_at f.ended.signature.params κs) a vss)) ∷ (raw (fact 𝓤 There) ⊛ raw (fact 𝓤 Here)) ∷ []) ∵
    move ! (1 ∷ []) $ split ! $ heard ! There (λ there. heard ! Here (λ here. split ! $ split3 ! $ move ! (3 ∷ []) $ fsplit3 ! $ fsplit3 ! $ move ! (3 ∷ []) $ fsplit ! $ keep ! (3 ∷ 4 ∷ 6 ∷ 1 ∷ 7 ∷ []) $
    enter ! _ _ _ _ _ $ alloc_all ! (λ l. pass_all ! refl ((tt, tt), ((tt, tt), ((tt, record { fits = are.1.1.0.1 }), ((tt, record { fits = are.1.1.1.0.1 }), ((tt, record { fits = fn }), tt))))) $
    memory_opens ! tt m rb ro (λ b o at_b fit. move ! (6 ∷ []) $ memory_shown ! m' sb so (λ d e at_d fit'. move ! (0 ∷ 8 ∷ []) $
    -- [the other's pointer; its token; its bytes; the bytes; the room; the pointer's cell; the open borrow; obs; auth]
    first ! $ blocks ! $ pointer_in ! tt m'.ptr d e at_d sb (so + 0) (λ q.
    sets ! (of_opd ! (load ! (through ! refl (fld ! refl (stop !))) (look ! 0 refl))) refl (tt, tt) $
    pointer_out ! tt m'.ptr d e at_d sb (so + 0) $
    sets ! (bin ! (get ! refl) (get ! refl) tt) refl (tt, tt) $
    sets ! (of_opd ! (load ! (through ! refl (fld ! refl (stop !))) (look_in ! 4 (sub ! 0 refl (whole !))))) refl (tt, tt) $
    sets ! (bin ! (get ! refl) (get ! refl) tt) refl (tt, tt) $
    move ! (1 ∷ 0 ∷ []) $ looks_slice ! tt u8 (uint_Copied 𝓛 w8) zs d e (λ p.
    use1 𝓛 (‵ (bytes p ws d (from + e)) ⊛ ‵ (Around 𝓛 d e zs from n p)) (part_cut 𝓛 d e zs from n p there) $ split ! $ move ! (4 ∷ []) $
    use1 𝓛 (‵ (bytes full_share old b (at + o)) ⊛ ‵ (Around 𝓛 b o xs at n full_share)) (part_cut 𝓛 b o xs at n full_share here) $ split ! $ move ! (2 ∷ 0 ∷ []) $ fjoin ! $
    let G = triple_of 𝓛 callee.signature (callee.spec 𝓛 𝓜.mem 𝓡.returns) in
    let z : G.Ghost = ((tt, tt, tt, (block_ptr d (from + e), (block_ptr b (at + o), (n, tt))), (vptr d (from + e) ∷ [], (vptr b (at + o) ∷ [], (vint w64 n ∷ [], tt)))), (p, ws, old)) in
    let Long : Type 0 = (length ws ≡ n) × (length old ≡ n) in
    use0 𝓛 (raw (fact 𝓤 Long)) (fact_i 𝓤 Long (emp 𝓤) (part_long zs from n there, part_long xs at n here)) $ join ! $
    nothing ! $ flt_i ! n (2 ^ 64) fn $ feq_i ! (List Val) (vint w64 n ∷ []) (vint w64 n ∷ []) refl $ fjoin ! $ fjoin ! $
    feq_i ! (List Val) (vptr b (at + o) ∷ []) (vptr b (at + o) ∷ []) refl $ fjoin ! $ feq_i ! (List Val) (vptr d (from + e) ∷ []) (vptr d (from + e) ∷ []) refl $ fjoin ! $ nothing ! $ join ! $ join ! $
    use1 𝓛 (raw (G.pre z)) (id⊢ 𝓤 _) $
    calls_at_last ! (framed 𝓤 𝓛.H 𝓜 𝓣) G (met 𝓤 𝓛 𝓜 𝓡 (code.calls-pli_region::memory::copy_bytes 𝓡.env wired)) z (and_then ! (get ! refl) (and_then ! (get ! refl) (and_then ! (get ! refl) (no_more !)))) (λ v.
    use1 𝓛 (later (some (λ (r : Unit {0}). (‵ ftrue ⊛ ‵ (unit.own_val r (v ∷ []))) ⊛
    some (λ (us : Unit {0} × (Unit {0} × (Unit {0} × Unit {0}))). ‵ (lasts callee.ended z.0.0 z.0.3 us) ⊛ ‵ (fsep (bytes p ws d (from + e)) (bytes full_share ws b (at + o))))))) (id⊢ 𝓤 _) $
    await ! tt $ pick ! (λ r. split ! $ split ! $ drop ! $ feq_l ! (λ is_unit. pick ! (λ us. split ! $ drop ! $
    lands_last ! refl (subst (λ (u : Val). T (has_ty ty_unit u) × WT u) (sym (ap only is_unit)) (tt, tt)) $
    exec ! 𝓣.C 𝓣.Λ (env code.Mir.locals l) (after 1 code.function.body) (at_ret _ (W.post y)) $ sets ! (of_opd ! (unit_lit !)) refl (tt, tt) $ fsplit ! $
    -- [the part that was read; the one that was written; what is around the one; what is around the other; the way back; ..]
    move ! (0 ∷ 3 ∷ []) $ use2 𝓛 (‵ (bytes p zs d e)) (part_back 𝓛 d e zs from n p there) $ move ! (0 ∷ 3 ∷ []) $ shuts_slice ! tt u8 p zs d e $
    let taken = part_long zs from n there in let long = written_long xs at ws (omega (arith, here, taken)) in
    move ! (1 ∷ 2 ∷ []) $ use2 𝓛 (‵ (bytes full_share (overwritten xs at ws) b o)) (part_glued 𝓛 b o xs at n full_share here ws taken) $ move ! (3 ∷ []) $
    rewrite ! 0 (λ (k : ℕ). ‵ (froom (block_of m.room) b (o + k))) (sym long) refl $ move ! (1 ∷ 0 ∷ 4 ∷ 5 ∷ 6 ∷ 7 ∷ []) $
    memory_closes ! tt new b o rb ro at_b (subst (λ (k : ℕ). k + m.room < 2 ^ 63) (sym long) fit) $
    returns ! (look_at ! 0 refl) $ free_all ! refl $
    suffices ! _ (ends_at 𝓛 f.ended stayed c y vunit tt (new, (tt, (tt, (tt, (tt, tt))))) (tt, (tt, (tt, (tt, (tt, tt)))))) $ says_three ! (refl, refl, refl) $
    feq_i ! (List Val) (mut_vals a.0) (mut_vals a.0) refl $ fjoin3 ! $ nothing ! $ nothing ! $ fjoin ! $ nothing ! $ fjoin ! $ nothing ! $ fjoin ! $ nothing ! $ fjoin ! $ move ! (1 ∷ 0 ∷ []) $ fjoin ! $
    nothing ! $ move ! (3 ∷ 0 ∷ []) $ join ! $ move ! (2 ∷ 0 ∷ []) $ join ! $ feq_i ! (List Val) (vunit ∷ []) (vunit ∷ []) refl $ keep ! (1 ∷ 2 ∷ 0 ∷ []) $ done !))))))))))))
