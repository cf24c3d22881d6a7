-- The first steps in the code of blocks stand where their statements begin.
use Rattle.std.proofs.Common.{◌≡◌, ℕ, suc, ◌+◌, ◌<◌, nat_eq, Bool, true, false, if◌then◌else◌, Option, Some, None, unwrap_or, List, [], ◌∷◌, ◌++◌, drop, get_or, length, map, refl, sym, ap, ◌∙◌, add-one}
use Rattle.std.proofs.lemmas.List.{at_drop_more}
use Rattle.pli_program.specs.Program as programs
use Rattle.pli_program.specs.declared.instruction.Instruction.TheVariants as op
use Rattle.pli_code.specs.CodedInstruction.{Instruction}
use Rattle.pli_type_tree.specs.TypedTree.{TypedExpression, TypedStatement, Statement, TypedStatements, NoStatement, StatementThen, NoElse, Else}
use Rattle.pli_type_tree.specs.TypedTree.{Form, Null, Assign, AssignString, AssignAggregate, AssignArea, EmptyArea, Put, If, Begin, Group, While, Iterate, Call, Goto, Return, ReturnValue, Stop, On, Revert, Signal, Allocate, Free}
use Rattle.pli_gen_emit.specs.TreeTranslation.{BlockTree, place_after, value_code, statement_code, form_code, list_code, end_code, block_code, blocks_code}
use Rattle.pli_gen_emit.specs.TreeTranslation.{places_in, places_in_form, places_among, places_of, statement_place, list_place}
use Rattle.pli_gen_emit.specs.answers.Instructions.{step_place}
use Rattle.pli_gen_emit.specs.Encoding.{NumberedTables}
use Rattle.pli_gen_emit.specs.answers.Emitting.{emitted}
use Rattle.pli_gen.specs.answers.Pieces.{first_step}
use Rattle.pli_gen.proofs.IterationCode.{iterate_passed}
use Rattle.pli_gen.proofs.FormCode.{none_in_form}
use Rattle.pli_gen.proofs.SimpleCode.{none_in_value, step_place_after, after_both}

-- one instruction more
first_then : (x : Instruction) (rest : List Instruction) (p n : ℕ) → first_step (x ∷ rest) p n 0 ≡ first_step (x ∷ []) p n (first_step rest (suc p) n 0)
first_then (op.Step s) rest p n = refl
first_then x rest p n = refl

pub more_steps : (code : List Instruction) (i : ℕ) (d : Instruction) (was now : Option ℕ) (n whole : ℕ) → i < length code
    → ((other : ℕ) → unwrap_or now other ≡ unwrap_or was (first_step (get_or code i d ∷ []) i n other))
    → unwrap_or was (first_step (drop i code) i n 0) ≡ whole
    → unwrap_or now (first_step (drop (i + 1) code) (i + 1) n 0) ≡ whole
more_steps code i d was now n whole lt step all =
    let x = get_or code i d in
    let rest = drop (i + 1) code in
    let apart : first_step (x ∷ rest) i n 0 ≡ first_step (x ∷ []) i n (first_step rest (i + 1) n 0) =
    first_then x rest i n ∙ ap (λ k. first_step (x ∷ []) i n (first_step rest k n 0)) (sym (add-one i)) in
    step (first_step rest (i + 1) n 0) ∙ ap (unwrap_or was) (sym apart ∙ sym (at_drop_more (λ ys. first_step ys i n 0) code i d lt)) ∙ all

-- steps are emitted as they are
step_emitted : (t : NumberedTables) (i : programs.Instruction) (rest : List Instruction) (p n d : ℕ)
    → first_step (emitted t i ∷ rest) p n d ≡ step_place (i ∷ []) p n (first_step rest (suc p) n d)
step_emitted t (op.Step s) rest p n d = refl
step_emitted t (op.Operate operation) rest p n d = refl
step_emitted t i rest p n d = refl

pub steps_emitted : (t : NumberedTables) (is : List programs.Instruction) (p n d : ℕ) → first_step (map (emitted t) is) p n d ≡ step_place is p n d
steps_emitted t [] p n d = refl
steps_emitted t (i ∷ is) p n d =
    step_emitted t i (map (emitted t) is) p n d ∙ ap (step_place (i ∷ []) p n) (steps_emitted t is (suc p) n d) ∙ sym (step_place_after (i ∷ []) is p n d)

-- the place of a statement among places; another one if it is not there
abbrev place_or : List (ℕ × ℕ) → (number other : ℕ) → ℕ
place_or [] m d = d
place_or ((s, p) ∷ more) m d = if nat_eq s m then p else place_or more m d

place_or_is : (places : List (ℕ × ℕ)) (m : ℕ) → place_or places m 0 ≡ statement_place places m
place_or_is [] m = refl
place_or_is ((s, p) ∷ more) m = ap (λ k. if nat_eq s m then p else k) (place_or_is more m)

place_or_after : (xs ys : List (ℕ × ℕ)) (m d : ℕ) → place_or (xs ++ ys) m d ≡ place_or xs m (place_or ys m d)
place_or_after [] ys m d = refl
place_or_after ((s, p) ∷ xs) ys m d = ap (λ k. if nat_eq s m then p else k) (place_or_after xs ys m d)

-- a test is passed over
test_passed : (test : TypedExpression) (rest : List programs.Instruction) (p m d : ℕ) → step_place (value_code test ++ rest) p m d ≡ step_place rest (place_after (value_code test) p) m d
test_passed test rest p m d =
    step_place_after (value_code test) rest p m d ∙ none_in_value test p m (step_place rest (place_after (value_code test) p) m d)

-- where a test fails, what is chosen is the other one
other_one : (b : Bool) (x y : ℕ) → b ≡ false → (if b then x else y) ≡ y
other_one b x y e = ap (λ b. if b then x else y) e

unless : (b : Bool) (p x y : ℕ) → (b ≡ false → x ≡ y) → (if b then p else x) ≡ (if b then p else y)
unless true p x y h = refl
unless false p x y h = h refl

-- the step at each turn of a loop is not the first of its statement
turn_passed : (number p r m d : ℕ) (test : TypedExpression) (code : List programs.Instruction) → nat_eq number m ≡ false
    → step_place (op.Line number ∷ value_code test ++ op.JumpUnless r ∷ op.Step number ∷ code ++ op.Jump p ∷ []) p m d
    ≡ step_place code (suc (suc (place_after (value_code test) (suc p)))) m d
turn_passed number p r m d test code e =
    let front = op.Line number ∷ value_code test ++ op.JumpUnless r ∷ op.Step number ∷ code in
    let q = suc (place_after (value_code test) (suc p)) in
    step_place_after front (op.Jump p ∷ []) p m d
    ∙ test_passed test (op.JumpUnless r ∷ op.Step number ∷ code) (suc p) m d
    ∙ other_one (nat_eq number m) q (step_place code (suc q) m d) e

mutual
  statement_begins : (s : TypedStatement) (p m d : ℕ) → step_place (statement_code s p) p m d ≡ place_or (places_in s p) m d
  statement_begins (Statement number form) p m d = unless (nat_eq number m) p _ _ (λ e. form_begins number form (suc p) m d e)

  form_begins : (number : ℕ) (f : Form) (p m d : ℕ) → nat_eq number m ≡ false → step_place (form_code number f p) p m d ≡ place_or (places_in_form f p) m d
  form_begins number (If test part NoElse) p m d e =
      let q = suc (place_after (value_code test) p) in
      test_passed test (op.JumpUnless (place_after (statement_code part q) q) ∷ statement_code part q) p m d ∙ statement_begins part q m d
      ∙ sym (place_or_after (places_in part q) [] m d)
  form_begins number (If test part (Else other)) p m d e =
      let q = suc (place_after (value_code test) p) in
      let code = statement_code part q in
      let r = suc (place_after code q) in
      let rest = op.Jump (place_after (statement_code other r) r) ∷ statement_code other r in
      let front = value_code test ++ op.JumpUnless r ∷ code in
      step_place_after front rest p m d
      ∙ test_passed test (op.JumpUnless r ∷ code) p m (step_place rest (place_after front p) m d)
      ∙ statement_begins part q m (step_place rest (place_after front p) m d)
      ∙ ap (place_or (places_in part q) m) (ap (λ k. step_place rest k m d) (after_both (value_code test) (op.JumpUnless r ∷ code) p) ∙ statement_begins other r m d)
      ∙ sym (place_or_after (places_in part q) (places_in other r) m d)
  form_begins number (Group statements) p m d e = list_begins statements p m d
  form_begins number (While condition statements) p m d e =
      let q = suc (suc (place_after (value_code condition) (suc p))) in
      turn_passed number p _ m d condition (list_code statements q) e ∙ list_begins statements q m d
  form_begins number (Iterate iteration statements) p m d e =
      iterate_passed number iteration (list_code statements) p m d e ∙ list_begins statements (list_place iteration p) m d
  form_begins number Null p m d e = none_in_form Null p m d
  form_begins number (Assign target value) p m d e = none_in_form (Assign target value) p m d
  form_begins number (AssignString target value) p m d e = none_in_form (AssignString target value) p m d
  form_begins number (AssignAggregate target source) p m d e = none_in_form (AssignAggregate target source) p m d
  form_begins number (AssignArea target source) p m d e = none_in_form (AssignArea target source) p m d
  form_begins number (EmptyArea target) p m d e = none_in_form (EmptyArea target) p m d
  form_begins number (Put skip items) p m d e = none_in_form (Put skip items) p m d
  form_begins number (Begin head statements) p m d e = refl
  form_begins number (Call callee arguments) p m d e = none_in_form (Call callee arguments) p m d
  form_begins number (Goto outward label) p m d e = refl
  form_begins number (Return outward) p m d e = refl
  form_begins number (ReturnValue outward value) p m d e = none_in_form (ReturnValue outward value) p m d
  form_begins number Stop p m d e = refl
  form_begins number (On condition block) p m d e = refl
  form_begins number (Revert condition) p m d e = refl
  form_begins number (Signal condition) p m d e = refl
  form_begins number (Allocate items) p m d e = none_in_form (Allocate items) p m d
  form_begins number (Free items) p m d e = none_in_form (Free items) p m d

  list_begins : (ss : TypedStatements) (p m d : ℕ) → step_place (list_code ss p) p m d ≡ place_or (places_among ss p) m d
  list_begins NoStatement p m d = refl
  list_begins (StatementThen first more) p m d =
      let code = statement_code first p in
      let q = place_after code p in
      step_place_after code (list_code more q) p m d
      ∙ statement_begins first p m _
      ∙ ap (place_or (places_in first p) m) (list_begins more q m d)
      ∙ sym (place_or_after (places_in first p) (places_among more q) m d)

end_passed : (e : Option ℕ) (p m d : ℕ) → step_place (end_code e) p m d ≡ d
end_passed None p m d = refl
end_passed (Some number) p m d = refl

blocks_begin : (bs : List BlockTree) (p m d : ℕ) → step_place (blocks_code bs p) p m d ≡ place_or (places_of bs p) m d
blocks_begin [] p m d = refl
blocks_begin (b ∷ bs) p m d =
    let code = block_code b p in
    let q = place_after code p in
    step_place_after code (blocks_code bs q) p m d
    ∙ step_place_after (list_code b.statements p) (end_code b.function_end) p m _
    ∙ ap (step_place (list_code b.statements p) p m) (end_passed b.function_end _ m _)
    ∙ list_begins b.statements p m _
    ∙ ap (place_or (places_among b.statements p) m) (blocks_begin bs q m d)
    ∙ sym (place_or_after (places_among b.statements p) (places_of bs q) m d)

-- so a GOTO leads where its label's statement begins
pub steps_are_places : (bs : List BlockTree) (m : ℕ) → step_place (blocks_code bs 0) 0 m 0 ≡ statement_place (places_of bs 0) m
steps_are_places bs m = blocks_begin bs 0 m 0 ∙ place_or_is (places_of bs 0) m
