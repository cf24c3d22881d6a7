-- `copy_bytes` reads each byte and writes it, from the first on. Assumes `Logic`.
use Rattle.std.proofs.Common.{◌≡◌, ℕ, zero, suc, ◌+◌, ◌-◌, ◌<◌, ◌≤◌, ◌^◌, List, [], ◌∷◌, length, get_or, set, take, drop as drop_l, refl, sym, lit<, nltb→le, w8, w64, arith}
use Rattle.std.proofs.raw_atomic.Walks.{proved}
use mathlib.Core.WellFounded.InvImage
use lib.Dec.{ltb→lt}
use lib.ListN.{length-append, length-take, length-drop}
use lib.WfN.{lt-wf_rel}
use seplogic.Ra.Ura.{Ura}
use base.Fraction.{full_share}
use base.Logic.{SProp, ent, sep, never_e}
use base.Fml.{Share, Fml, ffalse, fsep, fat}
use mir.Syntax.{ty_int}
use mir.Val.{Val, vunit, vint, vptr}
use contract.Monad.{Fun, fact}
use contract.Running.{tables, tables_of}
use prog.Memory.{Memory}
use prog.Routine.{Routine}
use prog.Wp.{Env, Out, Wp, WpFn, Tables, at_return, after_seq, after_block, after_turn}
use types.Kit.{Item, Sq, any_q, runs, ‵, raw, ◌⊛◌, at_ret, ◌$◌, ◌∵◌, !, qed, by, move, keep, drop, use1, use2, split, group, rewrite, fsplit, fjoin, feq_i, suffices, done}
use types.Logic.{Logic, sem}
use types.Run.{stop, look, load, store, lit, bin, unit_lit, of_opd, assigns_last, first, blocks, skips, jumps, branches, exec, returns, enter, loops, again, Below, well_typed}
use types.ByLocal.{alloc_all, pass_all, free_all, look_at, get, through, sets, sets_last, env, holding, forget_but, take_at, give_at}
use denote.Builtin.{u8, usize}
use denote.Exit.{yes}
use denote.Index.{place, place_byte, others, takes, puts, puts_back}
use denote.Memory.{part_at, shares}
use denote.Plain.{uint_in, uint_out, uint_vals, uint_Tells}
use denote.RawPtr.{Ptr, RawPtr, block_ptr, null_ptr, ptr_val, rawptr_vals, rawptr_Tells}
use denote.RawPtr.Bytes.{bytes}
use denote.Signature.{plain}
use denote.Steps.{heard, nothing}
use denote.Triple.Clauses.{Clauses}
use denote.Triple.Entry.{on_entry}
use denote.Triple.Walked.{Stays, stay_dropped, walk_of, ends_at, Goes-dropped}
use Rattle.core.proofs.alloc.Shapes.{after}
use Rattle.core.proofs.ptr.Rows.{one_more}
use Rattle.pli_region.proofs.Copied.{so_far, copied_one, copied_all}
use Rattle.pli_region.specs.Ownership.{bytes_at}
use Rattle.pli_region.specs.contracts.memory.copy_bytes as f
use Rattle.pli_region.proofs.memory.copy_bytes.Statement.{statement}
use Rattle.pli_region.proofs.memory.copy_bytes.Code as code

abbrev stayed : Stays f.ended.signature.params f.ended.kept
stayed = (stay_dropped (plain (λ _. RawPtr)) yes, (stay_dropped (plain (λ _. RawPtr)) yes, (stay_dropped (plain (λ _. usize)) yes, tt)))

module _ {M : Type 1} {𝓤 : Ura M} (𝓛 : Logic 𝓤) (at_mem : Memory → SProp 𝓤) (run : Routine → Fun 𝓤) (𝓣 : Tables 𝓤 𝓛.H) where
  open 𝓛 use {H}

  abbrev held : Clauses 𝓤 f.ended
  held = f.clauses 𝓛 at_mem run

  abbrev bound : Ptr → Ptr → ℕ → Share × List ℕ × List ℕ → (walk_of 𝓛 f.ended stayed held).Ghost
  bound from to n g = ((tt, tt, tt, (from, (to, (n, tt))), (ptr_val from ∷ [], (ptr_val to ∷ [], (vint w64 n ∷ [], tt)))), g)

  abbrev Goes : Ptr → Ptr → ℕ → Share × List ℕ × List ℕ → SProp 𝓤
  Goes from to n g = WpFn 𝓤 H 𝓣.C 𝓣.Λ code.function (ptr_val from ∷ ptr_val to ∷ vint w64 n ∷ []) ((walk_of 𝓛 f.ended stayed held).post (bound from to n g))

  module _ (q : Share) (xs ys : List ℕ) (n bs os bd od : ℕ) (fn : n < 2 ^ 64) (lx : length xs ≡ n) (ly : length ys ≡ n) where
    abbrev Post : Val → SProp 𝓤
    Post = (walk_of 𝓛 f.ended stayed held).post (bound (block_ptr bs os) (block_ptr bd od) n (q, xs, ys))

    abbrev Read : Fml
    Read = bytes q xs bs os

    abbrev Left : Type 0
    Left = (i : ℕ) × (i ≤ n)

    abbrev Nearer : Left → Left → Type 0
    Nearer t u = n - t.0 < n - u.0

    exits : ent 𝓤 (sep 𝓤 (sem 𝓛 Read) (sem 𝓛 (bytes full_share xs bd od))) (Post vunit)
    exits =
        qed 𝓛 (‵ Read ∷ ‵ (bytes full_share xs bd od) ∷ []) ∵ fjoin ! $
        suffices ! _ (ends_at 𝓛 f.ended stayed held (bound (block_ptr bs os) (block_ptr bd od) n (q, xs, ys)) vunit tt (tt, (tt, (tt, tt))) (tt, (tt, (tt, tt)))) $
        feq_i ! (List Val) (vunit ∷ []) (vunit ∷ []) refl $ nothing ! $ nothing ! $ fjoin ! $ nothing ! $ fjoin ! $ nothing ! $ fjoin ! $ nothing ! $ group ! 3 $ done !

    module _ (l : ℕ → ℕ) where
      abbrev En : Env 𝓤 H
      En = env (code.function).locals l

      -- the bytes that are read, and so many of them written
      abbrev Now : Left → List (Item 𝓤)
      Now t = ‵ Read ∷ ‵ (bytes full_share (so_far xs ys t.0) bd od) ∷ holding 𝓛 En ((1, vptr bs os) ∷ (2, vptr bd od) ∷ (3, vint w64 n) ∷ (4, vint w64 t.0) ∷ [])

      abbrev Turned : Left → Out → SProp 𝓤
      Turned t = after_turn 𝓤 H (Below 𝓛 Nearer Now t) (after_block 𝓤 H (after_seq 𝓤 H (Wp 𝓤 H 𝓣.C 𝓣.Λ En code.Mir.t-3 (at_return 𝓤 H En Post)) (at_return 𝓤 H En Post)))

      turns : (t : Left) → Sq 𝓛 (Now t) (runs 𝓣.C 𝓣.Λ En code.Mir.turn-1 (any_q (Turned t)))
      unfolding after_turn
      turns t =
          let i : ℕ = t.0 in let le = t.1 in let cs = so_far xs ys i in
          sets ! (bin ! (get ! refl) (get ! refl) tt) refl (tt, tt) $ first ! $ branches ! (get ! refl)
          (λ less. let h : i < n = ltb→lt i n less in let f₁ : i + 1 < 2 ^ 64 = omega arith in
          let inside : i < length xs = omega arith in let x = get_or xs i 0 in let c = get_or cs i 0 in
          let there : i < length cs = omega (arith, length-append (take i xs) (drop_l i ys), length-take i xs, length-drop i ys) in
          skips ! $ exec ! 𝓣.C 𝓣.Λ En (after 2 code.Mir.turn-1) (any_q (Turned t)) $ first ! $ blocks ! $
          sets ! (bin ! (get ! refl) (get ! refl) tt) refl (tt, tt) $
          use1 𝓛 (‵ (part_at u8 q x bs (place 1 os i)) ⊛ ‵ (others (shares u8) q xs i bs os)) (takes (shares u8) q 𝓛 xs i 0 bs os inside) $ split ! $
          rewrite ! 0 (λ (k : ℕ). ‵ (part_at u8 q x bs k)) (place_byte os i) refl $ use1 𝓛 (‵ (fat q (ty_int w8) bs (i + os) (vint w8 x))) (uint_out 𝓛 q w8 x bs (i + os)) $ well_typed ! (λ good.
          sets ! (of_opd ! (load ! (through ! refl (stop !)) (look ! 0 refl))) refl good $
          use1 𝓛 (‵ (part_at u8 q x bs (i + os))) (uint_in 𝓛 q w8 x bs (i + os)) $ rewrite ! 0 (λ (k : ℕ). ‵ (part_at u8 q x bs k)) (sym (place_byte os i)) refl $
          use2 𝓛 (‵ Read) (puts_back (shares u8) q 𝓛 xs i 0 bs os inside) $ move ! (1 ∷ []) $
          sets ! (bin ! (get ! refl) (get ! refl) tt) refl (tt, tt) $
          use1 𝓛 (‵ (part_at u8 full_share c bd (place 1 od i)) ⊛ ‵ (others (shares u8) full_share cs i bd od)) (takes (shares u8) full_share 𝓛 cs i 0 bd od there) $ split ! $
          rewrite ! 0 (λ (k : ℕ). ‵ (part_at u8 full_share c bd k)) (place_byte od i) refl $ use1 𝓛 (‵ (fat full_share (ty_int w8) bd (i + od) (vint w8 c))) (uint_out 𝓛 full_share w8 c bd (i + od)) $
          assigns_last ! (of_opd ! (get ! refl)) (through ! refl (stop !)) (store ! 0 refl good) $ exec ! 𝓣.C 𝓣.Λ En (after 3 code.Mir.turn-1) (any_q (Turned t)) $
          use1 𝓛 (‵ (part_at u8 full_share x bd (i + od))) (uint_in 𝓛 full_share w8 x bd (i + od)) $ rewrite ! 0 (λ (k : ℕ). ‵ (part_at u8 full_share x bd k)) (sym (place_byte od i)) refl $
          use2 𝓛 (‵ (bytes full_share (set cs i x) bd od)) (puts (shares u8) full_share 𝓛 cs i x bd od there) $
          rewrite ! 0 (λ (zs : List ℕ). ‵ (bytes full_share zs bd od)) (copied_one xs ys i inside (omega arith)) refl $ move ! (1 ∷ 0 ∷ []) $
          sets_last ! (bin ! (get ! refl) (lit ! tt) (record { fits = f₁ })) refl (tt, record { fits = f₁ }) $
          forget_but ! En (1 ∷ 2 ∷ 3 ∷ 4 ∷ []) refl $ take_at ! 4 $ rewrite ! 0 (λ (k : ℕ). ‵ (fat full_share (ty_int w64) (l 4) zero (vint w64 k))) (one_more i) refl $ give_at ! 4 $
          again ! Nearer Now t (suc i, omega arith) (omega arith)))
          (λ over. let ge : n ≤ i = nltb→le i n over in
          jumps ! $ exec ! 𝓣.C 𝓣.Λ En code.Mir.t-3 (at_ret En Post) $ rewrite ! 1 (λ (zs : List ℕ). ‵ (bytes full_share zs bd od)) (copied_all xs ys i (omega arith) (omega arith)) refl $
          sets ! (of_opd ! (unit_lit !)) refl (tt, tt) $ returns ! (look_at ! 0 refl) $ free_all ! refl $ by ! exits)

    runs_by : ent 𝓤 (sep 𝓤 (sem 𝓛 Read) (sem 𝓛 (bytes full_share ys bd od))) (Goes (block_ptr bs os) (block_ptr bd od) n (q, xs, ys))
    runs_by =
        qed 𝓛 (‵ Read ∷ ‵ (bytes full_share ys bd od) ∷ []) ∵
        enter ! 𝓣.C 𝓣.Λ code.function (vptr bs os ∷ vptr bd od ∷ vint w64 n ∷ []) _ $ alloc_all ! (λ l. pass_all ! refl ((tt, tt), ((tt, tt), ((tt, record { fits = fn }), tt))) $
        sets ! (of_opd ! (lit ! tt)) refl (tt, record { fits = lit< tt }) $ forget_but ! (En l) (1 ∷ 2 ∷ 3 ∷ 4 ∷ []) refl $
        first ! $ blocks ! $ loops ! 𝓣 Nearer (InvImage.wf (λ (t : Left). n - t.0) lt-wf_rel.wf) (Now l) (turns l) (0, omega arith))

  each : (from to : Ptr) (n : ℕ) (g : Share × List ℕ × List ℕ) → n < 2 ^ 64 → (length g.1 ≡ n) × (length g.2 ≡ n)
      → ent 𝓤 (sep 𝓤 (sem 𝓛 (bytes_at g.0 from g.1)) (sem 𝓛 (bytes_at full_share to g.2))) (Goes from to n g)
  each (block_ptr bs os) (block_ptr bd od) n g fn long = runs_by g.0 g.1 g.2 n bs os bd od fn long.0 long.1
  each (block_ptr bs os) null_ptr n g fn long = qed 𝓛 (‵ (bytes g.0 g.1 bs os) ∷ ‵ ffalse ∷ []) ∵ keep ! (1 ∷ []) $ by ! (never_e 𝓤 _)
  each null_ptr to n g fn long = qed 𝓛 (‵ ffalse ∷ ‵ (bytes_at full_share to g.2) ∷ []) ∵ keep ! (0 ∷ []) $ by ! (never_e 𝓤 _)

pub copy_bytes_spec : {M : Type 1} → statement M
unfolding tables_of
copy_bytes_spec 𝓤 𝓛 𝓜 𝓡 wired =
    let goes = Goes-dropped 𝓛 0 (plain (λ _. RawPtr)) yes (λ κs x w. refl) in
    proved 𝓛 f.ended stayed (f.clauses 𝓛 𝓜.mem 𝓡.returns) 𝓜 𝓡 (goes, (goes, (Goes-dropped 𝓛 0 (plain (λ _. usize)) yes (λ κs x w. refl), tt)))
    f.Key.name code.function (code.unfolded 𝓤 𝓛.H 𝓜 𝓡 wired)
    (λ κs. (rawptr_vals, (rawptr_vals, (uint_vals w64, tt)))) (λ κs. (rawptr_Tells, (rawptr_Tells, (uint_Tells w64, tt)))) (λ κs qs bounds a g are.
    let Long : Type 0 = (length g.1 ≡ a.1.1.0) × (length g.2 ≡ a.1.1.0) in
    qed 𝓛 (raw (on_entry 𝓛 f.signature κs qs a (bound 𝓛 𝓜.mem 𝓡.returns (tables_of 𝓤 𝓛.H 𝓜 (tables 𝓤 𝓛.H 𝓜 𝓡 𝓡.env)) a.0 a.1.0 a.1.1.0 g).0.4) ∷ (raw (fact 𝓤 Long) ⊛ ‵ (fsep (bytes_at g.0 a.0 g.1) (bytes_at full_share a.1.0 g.2))) ∷ []) ∵
    drop ! $ split ! $ heard ! Long (λ long. fsplit ! $ by ! (each 𝓛 𝓜.mem 𝓡.returns (tables_of 𝓤 𝓛.H 𝓜 (tables 𝓤 𝓛.H 𝓜 𝓡 𝓡.env)) a.0 a.1.0 a.1.1.0 g are.1.1.0.1 long)))
