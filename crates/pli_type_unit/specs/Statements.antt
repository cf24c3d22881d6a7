-- Typed statements: a statement gives a typed one, or its first fault of types and those of the statements in
-- it. An IF and a DO have a fault of their own, and so has each statement in them (own). An ON-unit is typed
-- as a procedure without parameters and value, whose list is its statement. A typed unit is that of its
-- external procedure, or all its faults of types (X3.74): one for each statement, in the order of the text.
use Rattle.std.specs.Prelude.{ℕ, suc, ◌&&◌, Option, Some, None, option_map, List, [], ◌∷◌, length, slice_get}
use Rattle.std.specs.Prelude.{Result, Ok, true, false, if◌then◌else◌}
use Rattle.std.specs.List.{list_any}
use Rattle.pli_base.specs.Results.{◌>>=◌}
use Rattle.pli_base.specs.Statements as tree
use Rattle.pli_base.specs.Statements.{Statement, Numbered, Body, Assign, Declare, Statements}
use Rattle.pli_base.specs.Statements.{Before, Ended, Alternative}
use Rattle.pli_base.specs.declared.code.Code.TheVariants.{BadGoto, CannotPrint}
use Rattle.pli_base.specs.declared.token.Fault.{Fault}
use Rattle.pli_declare.specs.ResolvedUnits.{ResolvedUnit}
use Rattle.pli_type_rules.specs.AllocationTyping.{in_turn}
use Rattle.pli_type_rules.specs.Checked.{is_main_option, is_nothing}
use Rattle.pli_type_rules.specs.Faults.{or_fault}
use Rattle.pli_type_rules.specs.Names.{NamedAs, ALabel}
use Rattle.pli_type_rules.specs.StatementTyping.{WithProcedures, alone, as_procedure, inside, leaves_nothing}
use Rattle.pli_type_rules.specs.StatementTyping.{made}
use Rattle.pli_type_rules.specs.StatementTyping.{of_own, only, together}
use Rattle.pli_type_rules.specs.Temporaries.{Next, limits_kept}
use Rattle.pli_type_tree.specs.TypedTree as typed
use Rattle.pli_type_tree.specs.TypedTree.{BlockHead, Form, NoElse, Else, NoStatement, OtherWise}
use Rattle.pli_type_tree.specs.TypedTree.{StatementThen}
use Rattle.pli_type_tree.specs.TypedTree.{TypedProcedure, TypedStatement, TypedStatements, TypedUnit}
use Rattle.pli_type_unit.specs.Actions.{all_allocated, assignment, call_typed, condition, freed, iteration}
use Rattle.pli_type_unit.specs.Actions.{return_typed}
use Rattle.pli_type_unit.specs.Contexts.{Context, after, after_all, in_block, in_group, meaning_in, taking}
use Rattle.pli_type_unit.specs.Expressions.{suited}
use Rattle.pli_type_unit.specs.UnitNames.{globals_of, is_automatic, parameters_of, returns_at, templates_in}
use Rattle.pli_type_unit.specs.Values.{printed}

-- a GOTO leads to a label of a list that it stands in, in the block so many static links outward; any other
-- leads nowhere: A11 at the label. Resolution tells this fault of each text already, so no unit that is typed
-- has it
abbrev pub jump : Context → NamedAs → Option Form
jump c (ALabel statement) = option_map (λ outward. typed.Goto outward statement) (c.labels statement)
jump c other = None

-- what an activation of the next block begins with
abbrev pub head_of : ResolvedUnit → Next → (statement : ℕ) → Statements → BlockHead
head_of r x statement list = record {
  number = x.block;
  statement = statement;
  variables = templates_in r is_automatic x.block;
  temporaries = (after_all r (inside x) list).temporary;
}

-- a procedure, which is the next block, with its typed statements; the END of a function must not be reached
abbrev pub procedure_of : ResolvedUnit → (parent : Option ℕ) → Next → (statement end : ℕ) → Statements
    → TypedStatements → TypedProcedure
procedure_of r parent x statement end list done = record {
  is_on_unit = false;
  head = head_of r x statement list;
  parent = parent;
  parameters = length (parameters_of r x.block);
  function_end = option_map (λ returned. end) (returns_at r x.block).0;
  statements = done;
}

-- an ON-unit, which is the next block, with its typed statement as a list
abbrev pub on_unit_of : ResolvedUnit → (parent : Option ℕ) → Next → (statement : ℕ) → (unit : Statement)
    → TypedStatements → TypedProcedure
on_unit_of r parent x statement unit done =
    record (procedure_of r parent x statement 0 (only unit) done) {
      is_on_unit = true;
      parameters = 0;
      function_end = None;
    }

-- a statement before others; a DECLARE and a procedure leave nothing there
abbrev pub put_before : Statement → TypedStatement → TypedStatements → TypedStatements
put_before (Numbered number label at body) first more =
    if leaves_nothing body then more else StatementThen first more

-- a statement, with the procedures in it
abbrev mutual
  pub statement_typed : Context → Next → Statement → Result (WithProcedures TypedStatement) (List Fault)
  statement_typed c x (Numbered number label at body) =
      made (typed.Statement number) (body_typed c x number at body)

  -- what a statement is, by its number and its first token
  pub body_typed : Context → Next → (number at : ℕ) → Body → Result (WithProcedures Form) (List Fault)
  body_typed c x number at tree.Null = Ok (alone typed.Null)
  body_typed c x number at (Assign target equals value) = of_own (assignment c at target equals value)
  body_typed c x number at (Declare declared) = Ok (alone typed.Null)
  body_typed c x number at (tree.Procedure heading list end) =
      as_procedure typed.Null (procedure_of c.unit (slice_get c.blocks 0) x number end list)
      (statements_typed
      (in_block c.unit (x.block ∷ c.blocks) 0 (returns_at c.unit x.block).0 c.labels list) (inside x) list)
  body_typed c x number at (tree.Begin list end) =
      made (typed.Begin (head_of c.unit x number list))
      (statements_typed
      (in_block c.unit (x.block ∷ c.blocks) (suc c.begins) c.value c.labels list) (inside x) list)
  body_typed c x number at (tree.Do None list end) =
      made typed.Group (statements_typed (in_group list c) x list)
  body_typed c x number at (tree.Do (Some (tree.While tested)) list end) =
      together typed.While (of_own (condition c tested)) (statements_typed (in_group list c) x list)
  body_typed c x number at (tree.Do (Some (tree.Iterate variable equals first range tested)) list end) =
      together typed.Iterate (of_own (iteration c x.temporary variable equals first range tested))
      (statements_typed (in_group list c) (taking (suc (limits_kept range)) x) list)
  body_typed c x number at (tree.If tested consequence alternative) =
      together (λ x (both : TypedStatement × OtherWise). typed.If x both.0 both.1) (of_own (condition c tested))
      (together (λ s otherwise. (s, otherwise)) (statement_typed c x consequence)
      (alternative_typed c (after c.unit x consequence) alternative))
  body_typed c x number at tree.Stop = Ok (alone typed.Stop)
  body_typed c x number at (tree.Allocate list) =
      of_own (all_allocated c x.temporary list >>= λ xs. Ok (typed.Allocate xs))
  body_typed c x number at (tree.Free list) = of_own (in_turn (freed c) list >>= λ xs. Ok (typed.Free xs))
  body_typed c x number at (tree.Call name arguments) = of_own (call_typed c name arguments)
  body_typed c x number at (tree.Goto label) =
      of_own (or_fault BadGoto label.at (jump c (meaning_in c label.at)))
  body_typed c x number at (tree.Return value) = of_own (return_typed c at value)
  body_typed c x number at (tree.Put skip items) =
      made (typed.Put skip) (of_own (in_turn (suited c CannotPrint printed) items))
  body_typed c x number at (tree.On condition unit) =
      as_procedure (typed.On condition x.block) (on_unit_of c.unit (slice_get c.blocks 0) x number unit)
      (together (put_before unit)
      (statement_typed (in_block c.unit (x.block ∷ c.blocks) 0 None c.lasting (only unit)) (inside x) unit)
      (Ok (alone NoStatement)))
  body_typed c x number at (tree.Revert condition) = Ok (alone (typed.Revert condition))
  body_typed c x number at (tree.Signal condition) = Ok (alone (typed.Signal condition))

  -- an ELSE
  pub alternative_typed : Context → Next → Alternative → Result (WithProcedures OtherWise) (List Fault)
  alternative_typed c x tree.NoElse = Ok (alone NoElse)
  alternative_typed c x (tree.Else statement) = made Else (statement_typed c x statement)

  -- the statements of a list
  pub statements_typed : Context → Next → Statements → Result (WithProcedures TypedStatements) (List Fault)
  statements_typed c x Ended = Ok (alone NoStatement)
  statements_typed c x (Before first more) =
      together (put_before first) (statement_typed c x first)
      (statements_typed c (after c.unit x first) more)

-- the unit

-- the unit with these statements: its external procedure, which is block 0, and after it those inside. A
-- program may begin with a unit that has OPTIONS(MAIN): its procedure has no parameters and no RETURNS, as is
-- asked of its declaration
abbrev pub unit_of : ResolvedUnit → Next → WithProcedures TypedStatements → TypedUnit
unit_of r x list = record {
  name = r.tree.heading.name.name;
  procedure = r.tree.heading.name.name;
  is_main = list_any is_main_option r.tree.heading.options && is_nothing (parameters_of r 0) (returns_at r 0).0;
  signature = record { parameters = parameters_of r 0; result = (returns_at r 0).0 };
  globals = globals_of r;
  procedures = procedure_of r None x r.tree.heading.number r.tree.end r.tree.statements list.part
      ∷ list.procedures;
}

-- the typed unit, or its faults of types
unfoldable pub typed_unit : ResolvedUnit → Result TypedUnit (List Fault)
typed_unit r =
    let x : Next = record { block = 0; temporary = 0 } in
    statements_typed (in_block r (0 ∷ []) 0 (returns_at r 0).0 (λ label. None) r.tree.statements) (inside x)
    r.tree.statements
    >>= λ list. Ok (unit_of r x list)
