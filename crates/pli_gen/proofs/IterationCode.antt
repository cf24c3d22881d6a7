-- Code of groups with a control variable, round their lists: no step, and jumps only after the tests and to them.
use Rattle.std.proofs.Common.{◌≡◌, ℕ, suc, ◌+◌, ◌≤◌, nat_eq, Bool, true, false, if◌then◌else◌, Option, Some, None, List, [], ◌∷◌, ◌++◌, refl, ap, sym, ◌∙◌}
use Rattle.std.specs.List.{AllByRecursion}
use Rattle.pli_program.specs.Program as programs
use Rattle.pli_program.specs.declared.instruction.Instruction.TheVariants as op
use Rattle.pli_operation.specs.declared.operation.Operation.TheVariants as calculate
use Rattle.pli_type_tree.specs.Iterations.{kept_by, limit_number, step_number, is_iterated}
use Rattle.pli_type_tree.specs.TypedTree.{TypedExpression, Iteration, TypedRange, Once, ToBy, ByTo, Repeated, RepeatedString}
use Rattle.pli_gen_emit.specs.TreeTranslation.{value_code, place_code, place_after, keeps_code, conversion_code, sets_code, start_code, test_against, limit_test, while_test, guarded}
use Rattle.pli_gen_emit.specs.TreeTranslation.{tests_code, counted_code, advances_code, back_code, turn_place, list_place, iterate_code}
use Rattle.pli_gen_emit.specs.answers.Instructions.{step_place}
use Rattle.pli_gen.specs.answers.Pieces.{Fits}
use Rattle.pli_gen.proofs.SimpleCode.{AllSimple, all_both, simple_both, value_simple, place_simple, conversion_simple, simple_fits, none_begins}
use Rattle.pli_gen.proofs.SimpleCode.{step_place_after, after_both}

keeps_simple : (t : ℕ) (es : List TypedExpression) → AllSimple (keeps_code t es)
keeps_simple t [] = tt
keeps_simple t (e ∷ es) = simple_both (value_code e) (op.SetTemporary t ∷ keeps_code (suc t) es) (value_simple e) (tt, keeps_simple (suc t) es)

sets_simple : (i : Iteration) (value : List programs.Instruction) → AllSimple value → AllSimple (sets_code i value)
sets_simple i value simple =
    let store = conversion_code i.conversion ++ op.Store ∷ [] in
    simple_both (place_code i.control) (value ++ store) (place_simple i.control)
    (simple_both value store simple (simple_both (conversion_code i.conversion) (op.Store ∷ []) (conversion_simple i.conversion) (tt, tt)))

pub start_simple : (i : Iteration) → AllSimple (start_code i)
start_simple i =
    let kept = i.start ∷ kept_by i.range in
    let value = op.TakeTemporary i.temporary ∷ [] in
    simple_both (keeps_code i.temporary kept) (sets_code i value) (keeps_simple i.temporary kept) (sets_simple i value (tt, tt))

counted_simple : (i : Iteration) (step : ℕ) → AllSimple (counted_code i step)
counted_simple i step =
    let place = place_code i.control in
    let rest = op.Load ∷ op.TakeTemporary (i.temporary + step) ∷ op.Operate calculate.Add ∷ [] in
    sets_simple i (place ++ rest) (simple_both place rest (place_simple i.control) (tt, (tt, (tt, tt))))

pub advances_simple : (range : TypedRange) (i : Iteration) → AllSimple (advances_code range i)
advances_simple Once i = tt
advances_simple (ToBy to by) i = counted_simple i 2
advances_simple (ByTo by to) i = counted_simple i 1
advances_simple (Repeated next) i =
    let value = value_code next in
    simple_both (place_code i.control) (value ++ op.Store ∷ []) (place_simple i.control) (simple_both value (op.Store ∷ []) (value_simple next) (tt, tt))
advances_simple (RepeatedString next) i =
    let value = value_code next in
    let rest = op.FitToPlace ∷ op.Store ∷ [] in
    simple_both (place_code i.control) (value ++ rest) (place_simple i.control) (simple_both value rest (value_simple next) (tt, (tt, tt)))

-- tests
abbrev GuardSimple : Option (List programs.Instruction) → Type 0
GuardSimple None = Unit {0}
GuardSimple (Some test) = AllSimple test

against_simple : (i : Iteration) (limit : Option ℕ) (step : ℕ) → GuardSimple (test_against i limit step)
against_simple i None step = tt
against_simple i (Some limit) step =
    let rest = op.Load ∷ op.TakeTemporary (i.temporary + limit) ∷ op.TakeTemporary (i.temporary + step) ∷ op.Operate calculate.Within ∷ [] in
    simple_both (place_code i.control) rest (place_simple i.control) (tt, (tt, (tt, (tt, tt))))

limit_simple : (i : Iteration) → GuardSimple (limit_test i)
limit_simple i = against_simple i (limit_number i.range) (step_number i.range)

while_simple : (e : Option TypedExpression) → GuardSimple (while_test e)
while_simple None = tt
while_simple (Some e) = value_simple e

guard_fits : (test : Option (List programs.Instruction)) (target n : ℕ) → GuardSimple test → target ≤ n → AllByRecursion (Fits n) (guarded test target)
guard_fits None target n simple t = tt
guard_fits (Some test) target n simple t = all_both (Fits n) test (op.JumpUnless target ∷ []) (simple_fits test n simple) (t, tt)

pub tests_fit : (i : Iteration) (target n : ℕ) → target ≤ n → AllByRecursion (Fits n) (tests_code i target)
tests_fit i target n t =
    all_both (Fits n) (guarded (limit_test i) target) (guarded (while_test i.condition) target) (guard_fits (limit_test i) target n (limit_simple i) t)
    (guard_fits (while_test i.condition) target n (while_simple i.condition) t)

pub back_fits : (iterated : Bool) (number : ℕ) (between : List programs.Instruction) (turn n : ℕ) → turn ≤ n → AllSimple between
    → AllByRecursion (Fits n) (back_code iterated number between turn)
back_fits false number between turn n t simple = tt
back_fits true number between turn n t simple =
    all_both (Fits n) (op.Line number ∷ between) (op.Jump turn ∷ []) (tt, simple_fits between n simple) (t, tt)

-- a test is as long wherever its jump leads
guard_length : (test : Option (List programs.Instruction)) (a b p : ℕ) → place_after (guarded test a) p ≡ place_after (guarded test b) p
guard_length None a b p = refl
guard_length (Some test) a b p = after_both test (op.JumpUnless a ∷ []) p ∙ sym (after_both test (op.JumpUnless b ∷ []) p)

pub tests_length : (i : Iteration) (a b p : ℕ) → place_after (tests_code i a) p ≡ place_after (tests_code i b) p
tests_length i a b p =
    let first : ℕ → List programs.Instruction = λ t. guarded (limit_test i) t in
    let second : ℕ → List programs.Instruction = λ t. guarded (while_test i.condition) t in
    after_both (first a) (second a) p ∙ ap (place_after (second a)) (guard_length (limit_test i) a b p) ∙ guard_length (while_test i.condition) a b (place_after (first b) p)
    ∙ sym (after_both (first b) (second b) p)

-- the place after the tests
pub tests_end : (i : Iteration) (target p : ℕ) → suc (place_after (start_code i ++ tests_code i target) p) ≡ list_place i p
tests_end i target p = ap suc (after_both (start_code i) (tests_code i target) p ∙ tests_length i target 0 (turn_place i p))

-- and after all
pub iterate_ends : (number : ℕ) (i : Iteration) (list : ℕ → List programs.Instruction) (p : ℕ)
    → place_after (iterate_code number i list p) p
    ≡ place_after (back_code (is_iterated i.range) number (advances_code i.range i) (turn_place i p)) (place_after (list (list_place i p)) (list_place i p))
iterate_ends number i list p =
    let q = list_place i p in
    let code = list q in
    let back = back_code (is_iterated i.range) number (advances_code i.range i) (turn_place i p) in
    let out = place_after back (place_after code q) in
    after_both (start_code i ++ tests_code i out) (op.Step number ∷ (code ++ back)) p ∙ ap (place_after (code ++ back)) (tests_end i out p) ∙ after_both code back q

-- no statement begins in it
guard_passed : (test : Option (List programs.Instruction)) (target p m d : ℕ) → GuardSimple test → step_place (guarded test target) p m d ≡ d
guard_passed None target p m d simple = refl
guard_passed (Some test) target p m d simple = step_place_after test (op.JumpUnless target ∷ []) p m d ∙ none_begins test p m d simple

tests_passed : (i : Iteration) (target p m d : ℕ) → step_place (tests_code i target) p m d ≡ d
tests_passed i target p m d =
    step_place_after (guarded (limit_test i) target) (guarded (while_test i.condition) target) p m d
    ∙ guard_passed (limit_test i) target p m _ (limit_simple i) ∙ guard_passed (while_test i.condition) target _ m d (while_simple i.condition)

back_passed : (iterated : Bool) (number : ℕ) (between : List programs.Instruction) (turn p m d : ℕ) → AllSimple between
    → step_place (back_code iterated number between turn) p m d ≡ d
back_passed false number between turn p m d simple = refl
back_passed true number between turn p m d simple =
    step_place_after (op.Line number ∷ between) (op.Jump turn ∷ []) p m d ∙ none_begins between (suc p) m d simple

pub iterate_passed : (number : ℕ) (i : Iteration) (list : ℕ → List programs.Instruction) (p m d : ℕ) → nat_eq number m ≡ false
    → step_place (iterate_code number i list p) p m d ≡ step_place (list (list_place i p)) (list_place i p) m d
iterate_passed number i list p m d other =
    let q = list_place i p in
    let code = list q in
    let between = advances_code i.range i in
    let back = back_code (is_iterated i.range) number between (turn_place i p) in
    let out = place_after back (place_after code q) in
    let start = start_code i in
    let tests = tests_code i out in
    let rest = op.Step number ∷ (code ++ back) in
    let r = place_after (start ++ tests) p in
    step_place_after (start ++ tests) rest p m d
    ∙ step_place_after start tests p m (step_place rest r m d)
    ∙ none_begins start p m _ (start_simple i)
    ∙ tests_passed i out (place_after start p) m (step_place rest r m d)
    ∙ ap (λ b. if b then r else step_place (code ++ back) (suc r) m d) other
    ∙ ap (λ k. step_place (code ++ back) k m d) (tests_end i out p)
    ∙ step_place_after code back q m d
    ∙ ap (step_place code q m) (back_passed (is_iterated i.range) number between (turn_place i p) (place_after code q) m d (advances_simple i.range i))
