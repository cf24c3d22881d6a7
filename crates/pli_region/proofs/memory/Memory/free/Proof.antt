-- `free` gives the allocator its block and its token. Assumes `Logic`.
use Rattle.std.proofs.Common.{◌≡◌, ℕ, ◌+◌, ◌*◌, List, [], ◌∷◌, ◌++◌, length, refl, sym, ◌∙◌, arith, lit<, w64}
use Rattle.std.proofs.raw_atomic.Walks.{proved_at, leaves}
use mir.Syntax.{Ty, Fn, Args, a_type, dcons, dnil, place, w8, ty_int}
use mir.Val.{Val, vint, vptr, vunit}
use mir.MapTy.{inst_fn}
use base.Logic.{SProp, id⊢}
use base.Fml.{Lft, Share, ftrue, flft, froom}
use prog.Capped.{capped_is}
use prog.Wp.{Env, WpFn}
use contract.BorrowLft.{◌⊑◌, ⊑_trans}
use contract.Monad.{fact}
use contract.Running.{tables}
use types.Kit.{‵, raw, ◌⊛◌, given, later, prop, settles, at_ret, ◌$◌, ◌∵◌, !, qed, by, move, drop, use1, use2, use3, split, join, learn, rewrite, regoal, fsplit, fjoin, feq_i, await}
use types.Part.{whole, sub}
use types.Run.{stop, fld, lit, unit_lit, of_opd, no_more, and_then, first, blocks, exec, returns, enter}
use types.ByLocal.{alloc_all, pass_all, free_all, look_at, get, get_in, sets, lands_last, env}
use denote.RattleType.{owns}
use denote.RawPtr.{Ptr, block_ptr}
use denote.RawPtr.Bytes.{bytes-room}
use denote.RawPtr.Room.{room_glue, past_bytes}
use denote.Param.{param, bounded}
use denote.Signature.{types_at}
use denote.Steps.{nothing, heard}
use denote.Triple.Entry.{alive}
use denote.Triple.Call.{calls_at_last}
use denote.Triple.Walked.{Stays, stay_dropped, walk_of, Goes-dropped}
use Rattle.core.proofs.alloc.Calls.{Al, seen, Goes-blank, Gives, at_gives, Gives-goes, Gives-Gives}
use Rattle.core.proofs.alloc.Shapes.{after}
use Rattle.core.proofs.atomic.Steps.{fm}
use Rattle.pli_region.proofs.Opens.{memory_val, memory_had}
use Rattle.pli_region.proofs.Leases.{slot_at, then_runs, out_of_block, lease_val, lease_told}
use Rattle.pli_region.specs.Ownership.{block_of}
use Rattle.pli_region.specs.contracts.memory.Memory.free.{ended, clauses}
use Rattle.pli_region.specs.contracts.memory.Memory.free.Key.{name as #self}
use Rattle.pli_region.proofs.memory.Memory.free.Statement.{statement}
use Rattle.pli_region.proofs.memory.Memory.free.Code as compiled

pub free_spec : {M : Type 1} → statement M
free_spec 𝓤 𝓛 𝓜 𝓡 wired A L g d dd met md =
    let H = 𝓛.H in
    let T = ended A g d dd in
    let c = clauses A g d dd 𝓛 𝓜.mem 𝓡.returns in
    let args : Args = bounded (a_type ∷ []) (A, tt) (dcons d (dcons dd dnil)) in
    let fn : Fn = inst_fn args compiled.function in
    let s₀ = slot_at 0 T.signature.params in let s₁ = slot_at 1 T.signature.params in let s₂ = slot_at 2 T.signature.params in let s₃ = slot_at 3 T.signature.params in
    let k₀ = T.kept.0 in let k₁ = T.kept.1.0 in let k₂ = T.kept.1.1.0 in let k₃ = T.kept.1.1.1.0 in
    let stays : Stays T.signature.params T.kept = (stay_dropped s₀ k₀, (stay_dropped s₁ k₁, (stay_dropped s₂ k₂, (stay_dropped s₃ k₃, tt)))) in
    let C = (tables 𝓤 H 𝓜 𝓡 𝓡.env).C in let Λ = (tables 𝓤 H 𝓜 𝓡 𝓡.env).Λ in
    proved_at 𝓛 T stays c 𝓜 𝓡 (Goes-blank 𝓛 2 s₀ k₀ (λ κs x f. tt), (Goes-dropped 𝓛 2 s₁ k₁ (λ κs x f. refl), (Goes-blank 𝓛 2 s₂ k₂ (λ κs x f. tt), (Goes-dropped 𝓛 2 s₃ k₃ (λ κs x f. refl), tt))))
    (#self args) fn (compiled.unfolded 𝓤 H 𝓜 𝓡 wired (A, tt) d dd) (λ z are.
    let Post : Val → SProp 𝓤 = (walk_of 𝓛 T stays c).post z in
    let a = z.0.3 in let vss = z.0.4 in
    let Y : Al = record { row = A; laws = L; g = g; d = d; drops = dd } in
    let κ : Lft = z.0.0.0 in let q : Share = z.0.1.0 in
    let m = a.0 in let xs = m.items in let n = a.1.0 in let fits = are.1.0.1 in let k = a.1.1.0 in
    let h = a.1.1.1.0.now in let handle = a.1.1.1.0.ref_ptr in let τ : Ty = block_of n in
    let All : Type 0 = length xs + m.room ≡ n in let Its : Type 0 = (k.alloc ≡ h) × (k.ptr ≡ m.ptr) × (k.size ≡ n) in
    qed 𝓛 ((raw (alive 𝓛 T.signature z.0.0 z.0.1) ⊛ ‵ (owns (types_at T.signature.params z.0.0) a vss)) ∷ (raw (fact 𝓤 (z.0.0.1.0 ⊑ A.lives)) ⊛ raw (fact 𝓤 All) ⊛ raw (fact 𝓤 Its)) ∷ []) ∵
    move ! (1 ∷ []) $ split ! $ heard ! (z.0.0.1.0 ⊑ A.lives) (λ le. split ! $ heard ! All (λ all. heard ! Its (λ its. split ! $ move ! (1 ∷ []) $
    fsplit ! $ memory_had ! m vss.0 (λ b o at is fit.
    use1 𝓛 (‵ (froom (block_of (length xs)) b o)) (bytes-room 𝓛 xs b o) $
    rewrite ! 1 (λ (j : ℕ). ‵ (froom (block_of m.room) b j)) (sym (past_bytes (length xs) o)) refl $
    use2 𝓛 (‵ (froom (block_of (length xs + m.room)) b o)) (room_glue 𝓛 (ty_int w8) (length xs) m.room b o) $
    rewrite ! 0 (λ (j : ℕ). ‵ (froom (block_of j) b o)) all refl $
    -- [the room; the other parameters; the tokens of lifetimes]
    move ! (1 ∷ []) $ fsplit ! $ drop ! $ fsplit ! $ fsplit ! $ drop ! $
    rewrite ! 0 (λ (u : A.Denot × ℕ × Ptr). ‵ (g.dealloc_token u.0 (block_of u.1) u.2)) (λ i. (its.0 i, its.2 i, (its.1 ∙ at) i)) refl $
    move ! (1 ∷ []) $ fsplit ! $ fsplit ! $ drop ! $ move ! (1 ∷ []) $ drop ! $ use1 𝓛 (‵ (seen Y κ handle h)) (id⊢ 𝓤 _) $
    move ! (3 ∷ []) $ use1 𝓛 (‵ (flft κ q) ⊛ ‵ (flft z.0.0.1.0 z.0.1.1.0) ⊛ ‵ ftrue) (id⊢ 𝓤 _) $ split ! $ move ! (2 ∷ 0 ∷ []) $ join ! $ move ! (3 ∷ 2 ∷ []) $
    let y = at_gives Y 𝓛 𝓜.mem 𝓡.returns κ q handle h b o n 1 τ in
    regoal ! (λ (us : List Val). prop (WpFn 𝓤 H C Λ fn us Post)) (λ i. is i ++ (are.1.0.0 i ++ (lease_told (param 0 A) g vss.1.1.0 are.1.1.0.0 i ++ (are.1.1.1.0.0 i ++ [])))) refl $
    enter ! C Λ fn (memory_val (block_ptr b o) ∷ vint w64 n ∷ lease_val ∷ vptr handle.0 handle.1 ∷ []) Post $
    alloc_all ! (λ l. pass_all ! refl ((tt, (tt, tt)), ((tt, record { fits = fits }), ((tt, (tt, tt)), ((tt, tt), tt)))) $ let En : Env 𝓤 𝓛.H = env fn.locals l in
    sets ! (of_opd ! (get_in ! (fld ! refl (stop !)) (sub ! 0 refl (whole !)))) refl (tt, tt) $
    first ! $ blocks ! $
    use3 𝓛 (raw ((Gives Y 𝓛 𝓜.mem 𝓡.returns).pre y)) (Gives-goes Y 𝓛 𝓜.mem 𝓡.returns κ q handle h (⊑_trans κ z.0.0.1.0 A.lives z.0.2.0 le) b o n 1 τ (capped_is (n * 1) (omega arith) ∙ omega arith) refl fits (lit< tt)) $
    calls_at_last ! (fm 𝓛 𝓜 𝓡) (Gives Y 𝓛 𝓜.mem 𝓡.returns) (met.deallocate dd) y (and_then ! (get ! refl) (and_then ! (get ! refl) (and_then ! (get ! refl) (and_then ! (lit ! tt) (no_more !))))) (λ v.
    use1 𝓛 (later (given (v ≡ vunit) (‵ (flft κ q)))) (Gives-Gives Y 𝓛 𝓜.mem 𝓡.returns κ q handle h b o n 1 τ v) $ await ! tt $ learn ! (λ e. join ! $
    regoal ! (λ (u : Val). settles En (place 6 []) u (out_of_block 𝓛 (then_runs 𝓛 C Λ En (after 2 fn.body) (at_ret En Post)))) e refl $ lands_last ! refl (tt, tt) $
    exec ! C Λ En (after 2 fn.body) (at_ret En Post) $
    sets ! (of_opd ! (unit_lit !)) refl (tt, tt) $
    returns ! (look_at ! 0 refl) $ free_all ! refl $
    feq_i ! (List Val) (vunit ∷ []) (vunit ∷ []) refl $ nothing ! $ nothing ! $ nothing ! $ fjoin ! $ nothing ! $ fjoin ! $ nothing ! $ fjoin ! $ nothing ! $ fjoin ! $ move ! (3 ∷ 0 ∷ 2 ∷ 1 ∷ []) $
    by ! (leaves 𝓛 T stays c z vunit tt (tt, (tt, (tt, (tt, tt)))) (tt, (tt, (tt, (tt, tt)))))))))))))
