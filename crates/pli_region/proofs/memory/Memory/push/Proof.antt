-- `push` writes a byte into the first place of the room. Assumes `Logic`.
use Rattle.std.proofs.Common.{◌≡◌, ℕ, suc, ◌+◌, ◌-◌, ◌<◌, List, [], ◌∷◌, ◌++◌, length, refl, sym, w8, w64, arith}
use Rattle.std.proofs.raw_atomic.Walks.{proved}
use lib.ListN.{length-append}
use base.Fraction.{full_share}
use base.Fml.{ftrue, flft, froom}
use mir.Syntax.{ty_int, named}
use mir.Val.{Val, vunit}
use contract.Monad.{fact}
use contract.Running.{tables}
use types.Kit.{‵, raw, ◌⊛◌, at_ret, ◌$◌, ◌∵◌, !, qed, done, move, keep, use1, use2, split, join, rewrite, fsplit, fsplit3, fjoin, fjoin3, feq_i, suffices}
use types.Part.{whole, sub, look_in}
use types.Run.{enter, of_opd, unit_lit, bin, load, init, stop, fld, assigns_last, first, blocks, exec, returns}
use types.ByLocal.{alloc_all, pass_all, free_all, look_at, get, through, sets, env}
use denote.Builtin.{u8, usize}
use denote.Exit.{yes}
use denote.Memory.{part_at}
use denote.Plain.{uint_in, uint_vals, uint_Tells}
use denote.RattleType.{owns}
use denote.RawPtr.Bytes.{bytes, bytes_glue}
use denote.Ref.{mut_vals, mut_Tells}
use denote.Signature.{plain, types_at}
use denote.Steps.{nothing, heard}
use denote.Triple.Walked.{Stays, walk_of, stay_dropped, stay_ref, Goes-dropped, Goes-ref, ends_at}
use Rattle.core.proofs.mem.Facts.{says_three}
use Rattle.core.proofs.slots.Bodies.{after}
use Rattle.pli_region.proofs.Opens.{R, memory_opens, memory_closes}
use Rattle.pli_region.specs.Ownership.{block_of}
use Rattle.pli_region.specs.declared.memory.Memory.{Memory}
use Rattle.pli_region.specs.contracts.memory.Memory.push as f
use Rattle.pli_region.proofs.memory.Memory.push.Statement.{statement}
use Rattle.pli_region.proofs.memory.Memory.push.Code as code

abbrev stayed : Stays f.ended.signature.params f.ended.kept
stayed = (stay_ref (0 ∷ []) tt (plain (λ _. R)), (stay_dropped (plain (λ _. usize)) yes, (stay_dropped (plain (λ _. u8)) yes, tt)))

pub push_spec : {M : Type 1} → statement M
push_spec 𝓤 𝓛 𝓜 𝓡 wired =
    let c = f.clauses 𝓛 𝓜.mem 𝓡.returns in let W = walk_of 𝓛 f.ended stayed c in let 𝓣 = tables 𝓤 𝓛.H 𝓜 𝓡 𝓡.env in
    proved 𝓛 f.ended stayed c 𝓜 𝓡 (Goes-ref 𝓛 1 0 tt (plain (λ _. R)), (Goes-dropped 𝓛 1 (plain (λ _. usize)) yes (λ κs x w. refl), (Goes-dropped 𝓛 1 (plain (λ _. u8)) yes (λ κs x w. refl), tt)))
    f.Key.name code.function (code.unfolded 𝓤 𝓛.H 𝓜 𝓡 wired)
    (λ κs. (mut_vals, (uint_vals w64, (uint_vals w8, tt)))) (λ κs. (mut_Tells (named 0) κs.0 R, (uint_Tells w64, (uint_Tells w8, tt)))) (λ κs qs bounds a _ are.
    let rb = a.0.ref_ptr.0 in let ro = a.0.ref_ptr.1 in let m = a.0.now in let at = a.1.0 in let byte = a.1.1.0 in let xs = m.items in
    let vss : List Val × (List Val × (List Val × Unit {0})) = (mut_vals a.0, (uint_vals w64 at, (uint_vals w8 byte, tt))) in let y : W.Ghost = ((κs, qs, bounds, a, vss), tt) in
    let left : ℕ = m.room - 1 in let new : Memory = record { ptr = m.ptr; items = xs ++ byte ∷ []; room = left } in
    let Asked : Type 0 = (at ≡ length xs) × (0 < m.room) in
    qed 𝓛 (((‵ (flft κs.0 qs.0) ⊛ ‵ ftrue) ⊛ ‵ (owns (types_at f.ended.signature.params κs) a vss)) ∷ raw (fact 𝓤 Asked) ∷ []) ∵
    move ! (1 ∷ []) $ heard ! Asked (λ asked. split ! $ split ! $ move ! (2 ∷ []) $ fsplit ! $ fsplit3 ! $ keep ! (1 ∷ 2 ∷ 4 ∷ []) $
    enter ! _ _ _ _ _ $ alloc_all ! (λ l. pass_all ! refl ((tt, tt), ((tt, record { fits = are.1.0.1 }), ((tt, record { fits = are.1.1.0.1 }), tt))) $
    memory_opens ! tt m rb ro (λ b o at_b fit. move ! (1 ∷ []) $
    let more : m.room ≡ suc left = omega (arith, asked.1) in let here : o + length xs ≡ at + o = omega (arith, asked.0) in
    let long : length (xs ++ byte ∷ []) ≡ suc (length xs) = omega (arith, length-append xs (byte ∷ [])) in
    rewrite ! 0 (λ (n : ℕ). ‵ (froom (block_of n) b (o + length xs))) more refl $
    use1 𝓛 (‵ (froom (ty_int w8) b (o + length xs)) ⊛ ‵ (froom (block_of left) b (o + length xs + 1))) (𝓛.laws.room_uncons (ty_int w8) left b (o + length xs)) $ split ! $
    rewrite ! 0 (λ (k : ℕ). ‵ (froom (ty_int w8) b k)) here refl $
    -- [the place; the room after it; the bytes; the pointer's cell]
    first ! $ blocks ! $
    sets ! (of_opd ! (load ! (through ! refl (fld ! refl (stop !))) (look_in ! 3 (sub ! 0 refl (whole !))))) refl (tt, tt) $
    sets ! (bin ! (get ! refl) (get ! refl) tt) refl (tt, tt) $
    assigns_last ! (of_opd ! (get ! refl)) (through ! refl (stop !)) (init ! 0 refl (tt, record { fits = are.1.1.0.1 })) $
    exec ! 𝓣.C 𝓣.Λ (env code.Mir.locals l) (after 1 code.function.body) (at_ret _ (W.post y)) $ sets ! (of_opd ! (unit_lit !)) refl (tt, tt) $
    use1 𝓛 (‵ (part_at u8 full_share byte b (at + o))) (uint_in 𝓛 full_share w8 byte b (at + o)) $
    rewrite ! 0 (λ (k : ℕ). ‵ (part_at u8 full_share byte b k)) (sym here) refl $ nothing ! $ move ! (1 ∷ 0 ∷ []) $ fjoin ! $
    move ! (2 ∷ 0 ∷ []) $ use2 𝓛 (‵ (bytes full_share (xs ++ byte ∷ []) b o)) (bytes_glue 𝓛 full_share xs (byte ∷ []) b o) $ move ! (1 ∷ []) $
    let beyond : o + length xs + 1 ≡ o + length (xs ++ byte ∷ []) = omega (arith, long) in
    rewrite ! 0 (λ (k : ℕ). ‵ (froom (block_of left) b k)) beyond refl $ move ! (1 ∷ 0 ∷ []) $
    memory_closes ! tt new b o rb ro at_b (omega (arith, long, fit, more)) $
    returns ! (look_at ! 0 refl) $ free_all ! refl $
    suffices ! _ (ends_at 𝓛 f.ended stayed c y vunit tt (new, (tt, (tt, tt))) (tt, (tt, (tt, tt)))) $ says_three ! (refl, sym (omega (arith, more)), refl) $
    feq_i ! (List Val) (mut_vals a.0) (mut_vals a.0) refl $ fjoin3 ! $ nothing ! $ nothing ! $ fjoin ! $ nothing ! $ fjoin ! $ move ! (1 ∷ 0 ∷ []) $ fjoin ! $
    nothing ! $ move ! (2 ∷ 0 ∷ []) $ join ! $ feq_i ! (List Val) (vunit ∷ []) (vunit ∷ []) refl $ keep ! (1 ∷ 2 ∷ 0 ∷ []) $ done !))))
