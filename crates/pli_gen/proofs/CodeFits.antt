-- Targets of jumps are not past the end of code, and neither are places of statements and entries of blocks.
use Rattle.std.proofs.Common.{◌≡◌, ℕ, zero, suc, ◌≤◌, ◌<◌, nat_eq, Bool, true, false, if◌then◌else◌, Option, Some, None, List, [], ◌∷◌, ◌++◌, get_or, length, refl, ap, arith}
use Rattle.std.specs.List.{AllByRecursion}
use Rattle.pli_program.specs.Program as programs
use Rattle.pli_program.specs.declared.instruction.Instruction.TheVariants as op
use Rattle.pli_type_tree.specs.TypedTree.{TypedExpression, TypedStatement, Statement, TypedStatements, NoStatement, StatementThen, NoElse, Else}
use Rattle.pli_type_tree.specs.TypedTree.{Form, If, Group, While, Iterate}
use Rattle.pli_type_tree.specs.Iterations.{is_iterated}
use Rattle.pli_gen_emit.specs.TreeTranslation.{start_code, tests_code, advances_code, back_code, turn_place, list_place}
use Rattle.pli_gen_emit.specs.TreeTranslation.{BlockTree, place_after, value_code, statement_code, form_code, list_code, end_code, block_code, blocks_code}
use Rattle.pli_gen_emit.specs.answers.Pieces.{entries_of}
use Rattle.pli_gen_emit.specs.answers.Instructions.{step_place}
use Rattle.pli_gen.specs.answers.Pieces.{Fits}
use Rattle.pli_gen.proofs.IterationCode.{start_simple, advances_simple, tests_fit, back_fits}
use Rattle.pli_gen.proofs.CodeEnds.{grows, both_within, one_way_within, two_ways_within, turns_within, iterate_within}
use Rattle.pli_gen_emit.proofs.JumpLemmas.{after_is}
use Rattle.pli_gen.proofs.FormCode.{simple_form_fits}
use Rattle.pli_gen.proofs.SimpleCode.{all_both, value_simple, simple_fits}

abbrev AllFit : (limit : ℕ) → List programs.Instruction → Type 0
AllFit n is = AllByRecursion (Fits n) is

-- a test with its jump
test_part : (test : TypedExpression) (target : ℕ) (code : List programs.Instruction) (n : ℕ) → target ≤ n → AllFit n code → AllFit n (value_code test ++ op.JumpUnless target ∷ code)
test_part test target code n t fits = all_both (Fits n) (value_code test) (op.JumpUnless target ∷ code) (simple_fits (value_code test) n (value_simple test)) (t, fits)

mutual
  statement_fits : (s : TypedStatement) (p n : ℕ) → place_after (statement_code s p) p ≤ n → AllFit n (statement_code s p)
  statement_fits (Statement number form) p n h = (tt, form_fits number form (suc p) n h)

  form_fits : (number : ℕ) (f : Form) (p n : ℕ) → place_after (form_code number f p) p ≤ n → AllFit n (form_code number f p)
  form_fits number (If test part NoElse) p n h =
      let q = suc (place_after (value_code test) p) in
      let last = one_way_within (value_code test) (statement_code part) p n h in
      test_part test (place_after (statement_code part q) q) (statement_code part q) n last (statement_fits part q n last)
  form_fits number (If test part (Else other)) p n h =
      let q = suc (place_after (value_code test) p) in
      let r = suc (place_after (statement_code part q) q) in
      let w = two_ways_within (value_code test) (statement_code part) (statement_code other) p n h in
      let first : place_after (statement_code part q) q ≤ n = let k = w.0 in omega (arith, k) in
      all_both (Fits n) (value_code test ++ op.JumpUnless r ∷ statement_code part q) (op.Jump (place_after (statement_code other r) r) ∷ statement_code other r)
      (test_part test r (statement_code part q) n w.0 (statement_fits part q n first)) (w.1, statement_fits other r n w.1)
  form_fits number (Group statements) p n h = list_fits statements p n h
  form_fits number (While test statements) p n h =
      let q = suc (suc (place_after (value_code test) (suc p))) in
      let code = list_code statements q in
      let w = turns_within number (value_code test) (list_code statements) p n h in
      let last : place_after code q ≤ n = let k = w.1 in omega (arith, k) in
      all_both (Fits n) (op.Line number ∷ value_code test ++ op.JumpUnless (suc (place_after code q)) ∷ op.Step number ∷ code) (op.Jump p ∷ [])
      (tt, test_part test (suc (place_after code q)) (op.Step number ∷ code) n w.1 (tt, list_fits statements q n last)) (w.0, tt)
  form_fits number (Iterate i statements) p n h =
      let turn = turn_place i p in
      let q = list_place i p in
      let code = list_code statements q in
      let back = back_code (is_iterated i.range) number (advances_code i.range i) turn in
      let start = start_code i in
      let tests = tests_code i (place_after back (place_after code q)) in
      let w = iterate_within number i (list_code statements) p n h in
      all_both (Fits n) (start ++ tests) (op.Step number ∷ (code ++ back))
      (all_both (Fits n) start tests (simple_fits start n (start_simple i)) (tests_fit i (place_after back (place_after code q)) n w.3)) (
        tt,
        all_both (Fits n) code back (list_fits statements q n w.2)
            (back_fits (is_iterated i.range) number (advances_code i.range i) turn n w.0 (advances_simple i.range i)),
      )
  form_fits number f p n h = simple_form_fits f p n h

  list_fits : (ss : TypedStatements) (p n : ℕ) → place_after (list_code ss p) p ≤ n → AllFit n (list_code ss p)
  list_fits NoStatement p n h = tt
  list_fits (StatementThen first more) p n h =
      let q = place_after (statement_code first p) p in
      let w = both_within (statement_code first p) (list_code more q) p n h in
      all_both (Fits n) (statement_code first p) (list_code more q) (statement_fits first p n w.0) (list_fits more q n w.1)

end_fits : (e : Option ℕ) (n : ℕ) → AllFit n (end_code e)
end_fits None n = (tt, tt)
end_fits (Some number) n = (tt, (tt, tt))

block_fits : (b : BlockTree) (p n : ℕ) → place_after (block_code b p) p ≤ n → AllFit n (block_code b p)
block_fits b p n h =
    let code = list_code b.statements p in
    all_both (Fits n) code (end_code b.function_end)
    (list_fits b.statements p n (both_within code (end_code b.function_end) p n h).0) (end_fits b.function_end n)

blocks_fit : (bs : List BlockTree) (p n : ℕ) → place_after (blocks_code bs p) p ≤ n → AllFit n (blocks_code bs p)
blocks_fit [] p n h = tt
blocks_fit (b ∷ bs) p n h =
    let q = place_after (block_code b p) p in
    let w = both_within (block_code b p) (blocks_code bs q) p n h in
    all_both (Fits n) (block_code b p) (blocks_code bs q) (block_fits b p n w.0) (blocks_fit bs q n w.1)

-- the whole code of a unit begins at 0
at_start : (is : List programs.Instruction) (n : ℕ) → length is ≤ n → place_after is 0 ≤ n
at_start is n h = let e = after_is is 0 in omega (arith, e, h)

pub unit_fits : (bs : List BlockTree) (n : ℕ) → length (blocks_code bs 0) ≤ n → AllByRecursion (Fits n) (blocks_code bs 0)
unit_fits bs n h = blocks_fit bs 0 n (at_start (blocks_code bs 0) n h)

either_within : (b : Bool) (p x n : ℕ) → p ≤ n → x ≤ n → (if b then p else x) ≤ n
either_within true p x n h k = h
either_within false p x n h k = k

-- statements begin at instructions of the code
pub begins_within : (is : List programs.Instruction) (p m n : ℕ) → place_after is p ≤ suc n → step_place is p m 0 ≤ n
begins_within [] p m n h = omega arith
begins_within (op.Step s ∷ is) p m n h =
    let g : suc p ≤ place_after is (suc p) = grows is (suc p) in
    either_within (nat_eq s m) p (step_place is (suc p) m 0) n (omega (arith, g, h)) (begins_within is (suc p) m n h)
begins_within (i ∷ is) p m n h = begins_within is (suc p) m n h

pub places_fit : (is : List programs.Instruction) (m n : ℕ) → length is ≤ n → step_place is 0 m 0 ≤ n
places_fit is m n h = begins_within is 0 m n (let k = at_start is n h in omega (arith, k))

entry_within : (bs : List BlockTree) (p k n : ℕ) → place_after (blocks_code bs p) p ≤ n → k < length (entries_of bs p) → get_or (entries_of bs p) k 0 ≤ n
entry_within [] p k n h lt = omega arith
entry_within (b ∷ bs) p zero n h lt = let g = grows (blocks_code (b ∷ bs) p) p in omega (arith, g, h)
entry_within (b ∷ bs) p (suc k) n h lt =
    let q = place_after (block_code b p) p in entry_within bs q k n (both_within (block_code b p) (blocks_code bs q) p n h).1 (omega (arith, lt))

pub entries_fit : (bs : List BlockTree) (k n : ℕ) → length (blocks_code bs 0) ≤ n → k < length (entries_of bs 0) → get_or (entries_of bs 0) k 0 ≤ n
entries_fit bs k n h lt = entry_within bs 0 k n (at_start (blocks_code bs 0) n h) lt

pub entries_counted : (bs : List BlockTree) (p : ℕ) → length (entries_of bs p) ≡ length bs
entries_counted [] p = refl
entries_counted (b ∷ bs) p = ap suc (entries_counted bs (place_after (block_code b p) p))
