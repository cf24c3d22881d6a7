-- The typed unit, or all its faults of types (X3.74): one for each statement, in the order of the text.
use Rattle.std.specs.Prelude.{Bool, true, false, ◌&&◌, Option, None, List, [], ◌∷◌}
use Rattle.std.specs.Prelude.{Result, Ok, Err}
use Rattle.std.specs.List.{list_any}
use Rattle.pli_base.specs.Statements.{ExternalProcedure, Main, ProcedureOption, Statements}
use Rattle.pli_base.specs.declared.token.Fault.{Fault}
use Rattle.pli_map.specs.Description.{Description}
use Rattle.pli_map.specs.ParameterTypes.{ParameterType}
use Rattle.pli_type_rules.specs.Names.{NamedUnit}
use Rattle.pli_type_rules.specs.StatementTyping.{Surroundings, WithProcedures, enclosing, procedure_of}
use Rattle.pli_type_rules.specs.StatementTyping.{statements_typed}
use Rattle.pli_type_rules.specs.Temporaries.{Next}
use Rattle.pli_type_tree.specs.TypedTree.{Signature, TypedUnit, TypedProcedure, TypedStatements}

-- the external procedure is block 0; it gives this, if it is a function
abbrev pub in_unit : (value : Option Description) → Statements → Surroundings
in_unit value statements = record { blocks = enclosing 0 statements ∷ []; begins = 0; value = value }

-- the external procedure is block 0, so the next one is block 1; its temporaries begin with 0
abbrev pub first_inside : Next
first_inside = record { block = 1; temporary = 0 }

-- the external procedure as a typed one, with its statements
abbrev pub external_of : NamedUnit → TypedStatements → TypedProcedure
external_of u list = procedure_of u None 0 u.tree.heading.number u.tree.end u.tree.statements list

-- what the external procedure takes and gives
abbrev pub outer_signature : NamedUnit → Signature
outer_signature u = record { parameters = u.parameters 0; result = u.returned 0 }

-- no parameters and no RETURNS
abbrev pub is_nothing : List ParameterType → Option Description → Bool
is_nothing [] None = true
is_nothing parameters result = false

-- such a procedure takes and gives nothing
abbrev pub takes_nothing : Signature → Bool
takes_nothing s = is_nothing s.parameters s.result

-- MAIN among the options
abbrev pub is_main_option : ProcedureOption → Bool
is_main_option Main = true
is_main_option option = false

-- the unit has OPTIONS(MAIN)
abbrev pub is_main : ExternalProcedure → Bool
is_main u = list_any is_main_option u.heading.options

-- a program may begin with a unit that has OPTIONS(MAIN): its procedure has no parameters and no RETURNS, as
-- is asked of its declaration
abbrev pub may_begin : ExternalProcedure → Signature → Bool
may_begin u s = is_main u && takes_nothing s

-- the typed unit: its external procedure, and after it those inside
abbrev pub unit_of : NamedUnit → WithProcedures TypedStatements → TypedUnit
unit_of u list = record {
  name = u.tree.heading.name.name;
  procedure = u.tree.heading.name.name;
  is_main = may_begin u.tree (outer_signature u);
  signature = outer_signature u;
  globals = u.globals;
  procedures = external_of u list.part ∷ list.procedures;
}

-- the unit, where its statements have no faults
abbrev pub typed_as : NamedUnit → Result (WithProcedures TypedStatements) (List Fault)
    → Result TypedUnit (List Fault)
typed_as u (Ok list) = Ok (unit_of u list)
typed_as u (Err faults) = Err faults

-- what `check` answers
unfoldable pub checked : NamedUnit → Result TypedUnit (List Fault)
checked u =
    typed_as u (statements_typed u (in_unit (u.returned 0) u.tree.statements) first_inside u.tree.statements)
