-- Code with jumps whose targets are put in when they are known.
use Rattle.std.proofs.Common.{◌≡◌, ◌<◌, ◌+◌, ◌++◌, ◌||◌, ◌∷◌, [], ℕ, false, zero, suc, min, List, length, slice_set, drop, get_or, refl, ap, ◌∙◌, sym, arith}
use Rattle.std.proofs.lemmas.List.{at_drop_more, append_assoc}
use Rattle.pli_program.specs.Program as programs
use Rattle.pli_program.specs.declared.instruction.Instruction.TheVariants as op
use Rattle.pli_code.specs.CodedInstruction.{Instruction}
use Rattle.pli_gen_emit.specs.TreeTranslation.{BlockTree, place_after, one_way, two_ways, turns_code, block_code, blocks_code}
use Rattle.pli_gen_emit.specs.answers.Emitting.{Emission, emitted, tables_with, gotos_with, with_instruction, extended, landed}
use Rattle.pli_gen_emit.specs.answers.Pieces.{entries_of}
use Rattle.pli_gen_emit.specs.views.BlockView.{block_tree, block_trees}
use Rattle.pli_gen_emit.specs.declared.block.BlockSource.{BlockSource}
use Rattle.pli_gen_emit.proofs.EmitLemmas.{extended_both, one_longer, longer, counted}
use Rattle.pli_gen_emit.proofs.PlacedLemmas.{more_placed}

-- the place after code is so many further
pub after_is : (is : List programs.Instruction) (p : ℕ) → place_after is p ≡ p + length is
after_is [] p = omega arith
after_is (i ∷ is) p = let e = after_is is (suc p) in omega (arith, e)

-- a list with one element changed
pub set_between : {X : Type 0} (xs ys : List X) (x y : X) → slice_set (xs ++ x ∷ ys) (length xs) y ≡ xs ++ y ∷ ys
set_between [] ys x y = refl
set_between (w ∷ xs) ys x y = ap (λ zs. w ∷ zs) (set_between xs ys x y)

set_front : {X : Type 0} (xs ys : List X) (p : ℕ) (y : X) → p < length xs → slice_set (xs ++ ys) p y ≡ slice_set xs p y ++ ys
set_front [] ys p y lt = absurd (omega (arith, lt))
set_front (x ∷ xs) ys zero y lt = refl
set_front (x ∷ xs) ys (suc p) y lt = ap (λ zs. x ∷ zs) (set_front xs ys p y (omega (arith, lt)))

length_set : {X : Type 0} (xs : List X) (i : ℕ) (y : X) → length (slice_set xs i y) ≡ length xs
length_set [] i y = refl
length_set (x ∷ xs) zero y = refl
length_set (x ∷ xs) (suc i) y = ap suc (length_set xs i y)

-- what is put in before code is put in after it as well
module _ (p : ℕ) (x : Instruction) where
  lands_one : (e : Emission) (i : programs.Instruction) → p < length e.code → landed p x (with_instruction e i) ≡ with_instruction (landed p x e) i
  unfolding with_instruction landed
  lands_one e i lt =
      let made : List Instruction → ℕ → Emission = λ code n. record {
        tables = tables_with e.tables i;
        code = code;
        gotos = gotos_with e.gotos n i;
        is_wide = (with_instruction e i).is_wide;
      } in
      ap (λ code. made code (length e.code)) (set_front e.code (emitted e.tables i ∷ []) p x lt)
      ∙ ap (made (slice_set e.code p x ++ emitted e.tables i ∷ [])) (sym (length_set e.code p x))

  lands_before : (e : Emission) (is : List programs.Instruction) → p < length e.code → landed p x (extended e is) ≡ extended (landed p x e) is
  lands_before e [] lt = refl
  lands_before e (i ∷ is) lt =
      let n = one_longer e i in
      lands_before (with_instruction e i) is (omega (arith, n, lt)) ∙ ap (λ s. extended s is) (lands_one e i lt)

  pub landed_length : (e : Emission) → length (landed p x e).code ≡ length e.code
  unfolding landed
  landed_length e = length_set e.code p x

-- a jump lands, whatever stands after it
module _ (e : Emission) (from to : ℕ) where
  abbrev with_code : List Instruction → Emission
  with_code code = record { tables = e.tables; code = code; gotos = e.gotos; is_wide = e.is_wide || false }

  test_here : landed (length e.code) (op.JumpUnless (min to 65535)) (with_instruction e (op.JumpUnless from)) ≡ with_instruction e (op.JumpUnless to)
  unfolding with_instruction landed
  test_here = ap with_code (set_between e.code [] (op.JumpUnless (min from 65535)) (op.JumpUnless (min to 65535)))

  jump_here : landed (length e.code) (op.Jump (min to 65535)) (with_instruction e (op.Jump from)) ≡ with_instruction e (op.Jump to)
  unfolding with_instruction landed
  jump_here = ap with_code (set_between e.code [] (op.Jump (min from 65535)) (op.Jump (min to 65535)))

  pub test_lands : (rest : List programs.Instruction)
      → landed (length e.code) (op.JumpUnless (min to 65535)) (extended (with_instruction e (op.JumpUnless from)) rest) ≡ extended e (op.JumpUnless to ∷ rest)
  test_lands rest =
      let n = one_longer e (op.JumpUnless from) in
      lands_before (length e.code) (op.JumpUnless (min to 65535)) (with_instruction e (op.JumpUnless from)) rest (omega (arith, n)) ∙ ap (λ s. extended s rest) test_here

  pub jump_lands : (rest : List programs.Instruction)
      → landed (length e.code) (op.Jump (min to 65535)) (extended (with_instruction e (op.Jump from)) rest) ≡ extended e (op.Jump to ∷ rest)
  jump_lands rest =
      let n = one_longer e (op.Jump from) in
      lands_before (length e.code) (op.Jump (min to 65535)) (with_instruction e (op.Jump from)) rest (omega (arith, n)) ∙ ap (λ s. extended s rest) jump_here

-- an IF without an ELSE part
pub one_way_made : (old tested jumping done all : Emission) (test : List programs.Instruction) (part : ℕ → List programs.Instruction)
    → tested ≡ extended old test → jumping ≡ with_instruction tested (op.JumpUnless 0) → done ≡ extended jumping (part (length jumping.code))
    → all ≡ landed (length tested.code) (op.JumpUnless (min (length done.code) 65535)) done
    → all ≡ extended old (one_way test part (length old.code))
one_way_made old tested jumping done all test part t j d a =
    let q = suc (place_after test (length old.code)) in
    let at : length jumping.code ≡ q = longer tested jumping (op.JumpUnless 0 ∷ []) j ∙ ap suc (longer old tested test t) in
    let end : length done.code ≡ place_after (part q) q = longer jumping done (part (length jumping.code)) d ∙ ap (λ n. place_after (part n) n) at in
    let to = place_after (part q) q in
    a ∙ ap (λ n. landed (length tested.code) (op.JumpUnless (min n 65535)) done) end
    ∙ ap (landed (length tested.code) (op.JumpUnless (min to 65535))) (d ∙ ap (λ n. extended jumping (part n)) at ∙ ap (λ s. extended s (part q)) j)
    ∙ test_lands tested 0 to (part q)
    ∙ ap (λ s. extended s (op.JumpUnless to ∷ part q)) t
    ∙ sym (extended_both old test (op.JumpUnless to ∷ part q))

-- an IF with one
pub two_ways_made : (old tested jumping done over put last all : Emission) (test : List programs.Instruction) (part other : ℕ → List programs.Instruction)
    → tested ≡ extended old test → jumping ≡ with_instruction tested (op.JumpUnless 0) → done ≡ extended jumping (part (length jumping.code))
    → over ≡ with_instruction done (op.Jump 0)
    → put ≡ landed (length tested.code) (op.JumpUnless (min (length over.code) 65535)) over
    → last ≡ extended put (other (length put.code)) → all ≡ landed (length done.code) (op.Jump (min (length last.code) 65535)) last
    → all ≡ extended old (two_ways test part other (length old.code))
two_ways_made old tested jumping done over put last all test part other t j d o p l a =
    let q = suc (place_after test (length old.code)) in
    let at : length jumping.code ≡ q = longer tested jumping (op.JumpUnless 0 ∷ []) j ∙ ap suc (longer old tested test t) in
    let end : length done.code ≡ place_after (part q) q = longer jumping done (part (length jumping.code)) d ∙ ap (λ n. place_after (part n) n) at in
    let r = suc (place_after (part q) q) in
    let at2 : length over.code ≡ r = longer done over (op.Jump 0 ∷ []) o ∙ ap suc end in
    let at3 : length put.code ≡ r =
    ap (λ (s : Emission). length s.code) p ∙ landed_length (length tested.code) (op.JumpUnless (min (length over.code) 65535)) over ∙ at2 in
    let last_at = place_after (other r) r in
    let end2 : length last.code ≡ last_at = longer put last (other (length put.code)) l ∙ ap (λ n. place_after (other n) n) at3 in
    let front = op.JumpUnless r ∷ part q in
    let done2 = extended tested front in
    let same : length done.code ≡ length done2.code =
    end ∙ sym (counted tested front ∙ ap (λ n. place_after (part q) (suc n)) (longer old tested test t)) in
    let over2 : over ≡ extended (with_instruction tested (op.JumpUnless 0)) (part q ++ op.Jump 0 ∷ []) =
    o ∙ ap (λ s. with_instruction s (op.Jump 0)) (d ∙ ap (λ n. extended jumping (part n)) at ∙ ap (λ s. extended s (part q)) j)
    ∙ sym (extended_both (with_instruction tested (op.JumpUnless 0)) (part q) (op.Jump 0 ∷ [])) in
    let put2 : put ≡ with_instruction done2 (op.Jump 0) =
    p ∙ ap (λ n. landed (length tested.code) (op.JumpUnless (min n 65535)) over) at2
    ∙ ap (landed (length tested.code) (op.JumpUnless (min r 65535))) over2
    ∙ test_lands tested 0 r (part q ++ op.Jump 0 ∷ [])
    ∙ extended_both tested front (op.Jump 0 ∷ []) in
    let last2 : last ≡ extended (with_instruction done2 (op.Jump 0)) (other r) =
    l ∙ ap (λ n. extended put (other n)) at3 ∙ ap (λ s. extended s (other r)) put2 in
    a ∙ ap (λ n. landed (length done.code) (op.Jump (min n 65535)) last) end2
    ∙ ap (λ n. landed n (op.Jump (min last_at 65535)) last) same
    ∙ ap (landed (length done2.code) (op.Jump (min last_at 65535))) last2
    ∙ jump_lands done2 0 last_at (other r)
    ∙ ap (λ s. extended s (op.Jump last_at ∷ other r)) (ap (λ s. extended s front) t ∙ sym (extended_both old test front))
    ∙ sym (extended_both old (test ++ front) (op.Jump last_at ∷ other r))

-- the turns of a loop
pub turns_made : (old lined tested jumping stepping done back all : Emission) (number : ℕ) (test : List programs.Instruction) (list : ℕ → List programs.Instruction)
    → lined ≡ with_instruction old (op.Line number) → tested ≡ extended lined test → jumping ≡ with_instruction tested (op.JumpUnless 0)
    → stepping ≡ with_instruction jumping (op.Step number) → done ≡ extended stepping (list (length stepping.code))
    → back ≡ with_instruction done (op.Jump (length old.code)) → all ≡ landed (length tested.code) (op.JumpUnless (min (length back.code) 65535)) back
    → all ≡ extended old (turns_code number test list (length old.code))
turns_made old lined tested jumping stepping done back all number test list n t j s d b a =
    let p = length old.code in
    let q = suc (suc (place_after test (suc p))) in
    let begun : tested ≡ extended old (op.Line number ∷ test) = t ∙ ap (λ s. extended s test) n in
    let at : length stepping.code ≡ q =
    longer jumping stepping (op.Step number ∷ []) s ∙ ap suc (longer tested jumping (op.JumpUnless 0 ∷ []) j ∙ ap suc (longer old tested (op.Line number ∷ test) begun)) in
    let z = suc (place_after (list q) q) in
    let end : length back.code ≡ z = longer done back (op.Jump p ∷ []) b ∙ ap suc (longer stepping done (list (length stepping.code)) d ∙ ap (λ n. place_after (list n) n) at) in
    let body = op.Step number ∷ list q in
    let done2 : done ≡ extended (with_instruction tested (op.JumpUnless 0)) body =
    d ∙ ap (λ n. extended stepping (list n)) at ∙ ap (λ s. extended s (list q)) (s ∙ ap (λ s. with_instruction s (op.Step number)) j) in
    let back2 : back ≡ extended (with_instruction tested (op.JumpUnless 0)) (body ++ op.Jump p ∷ []) =
    b ∙ ap (λ s. with_instruction s (op.Jump p)) done2 ∙ sym (extended_both (with_instruction tested (op.JumpUnless 0)) body (op.Jump p ∷ [])) in
    let front = op.JumpUnless z ∷ body in
    a ∙ ap (λ n. landed (length tested.code) (op.JumpUnless (min n 65535)) back) end
    ∙ ap (landed (length tested.code) (op.JumpUnless (min z 65535))) back2
    ∙ test_lands tested 0 z (body ++ op.Jump p ∷ [])
    ∙ extended_both tested front (op.Jump p ∷ [])
    ∙ ap (λ s. with_instruction s (op.Jump p)) (ap (λ s. extended s front) begun ∙ sym (extended_both old (op.Line number ∷ test) front))
    ∙ sym (extended_both old ((op.Line number ∷ test) ++ front) (op.Jump p ∷ []))

-- one block more
module _ (bs : List BlockSource) (i : ℕ) (d : BlockSource) (old new : Emission) (lt : i < length bs)
    (added : new ≡ extended old (block_code (block_tree (get_or bs i d)) (length old.code))) where
  abbrev here : List programs.Instruction
  here = block_code (block_tree (get_or bs i d)) (length old.code)

  abbrev rest : List BlockTree
  rest = block_trees (drop (i + 1) bs)

  pub more_blocks : (whole : Emission) → extended old (blocks_code (block_trees (drop i bs)) (length old.code)) ≡ whole
      → extended new (blocks_code rest (length new.code)) ≡ whole
  more_blocks whole all =
      more_placed (λ bs p. blocks_code (block_trees bs) p) (λ b p. block_code (block_tree b) p) (λ b bs p. refl) bs i d old new whole lt added all

  pub more_entries : (before now whole : List ℕ) → now ≡ before ++ length old.code ∷ [] → before ++ entries_of (block_trees (drop i bs)) (length old.code) ≡ whole
      → now ++ entries_of rest (length new.code) ≡ whole
  more_entries before now whole put all =
      let step : before ++ entries_of (block_trees (drop i bs)) (length old.code) ≡ before ++ length old.code ∷ entries_of rest (place_after here (length old.code)) =
      at_drop_more (λ ys. before ++ entries_of (block_trees ys) (length old.code)) bs i d lt in
      ap (λ n. now ++ entries_of rest n) (longer old new here added) ∙ ap (λ xs. xs ++ entries_of rest (place_after here (length old.code))) put
      ∙ append_assoc before (length old.code ∷ []) (entries_of rest (place_after here (length old.code))) ∙ sym step ∙ all
