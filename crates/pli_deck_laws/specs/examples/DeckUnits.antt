-- A worked example: a unit with a template, a group with a control variable, a call and an entry.
use Rattle.std.specs.Prelude.{◌≡◌, ℕ, true, false, pos, None, Some, [], ◌∷◌, codes}
use Rattle.pli_gen_emit.specs.Encoding.{code_of}
use Rattle.pli_gen.specs.Limits.{is_too_long}
use Rattle.pli_gen.specs.WellNumbered.{IsWellNumbered}
use Rattle.pli_map.specs.Description.{Description, FixedBinary, Character, Array}
use Rattle.pli_map.specs.ParameterTypes.{Stated, AnyString}
use Rattle.pli_map.specs.declared.parameter.StringForm.TheVariants as forms
use Rattle.pli_program.specs.declared.kind.VariableKind.TheVariants.{Static}
use Rattle.pli_type_tree.specs.Templates.{Template}
use Rattle.pli_type_tree.specs.TypedTree.{InSlot, Fit, TypedExpression, Literal, Calculated}
use Rattle.pli_type_tree.specs.TypedTree.{TypedReference, Whole}
use Rattle.pli_type_tree.specs.TypedTree.{NoOperand, OperandThen, NoArgument, ByPlace, ByDummy, OfBlock}
use Rattle.pli_type_tree.specs.TypedTree.{ByOperations, TypedStatement, Statement, Iterate, Call, ToBy}
use Rattle.pli_type_tree.specs.TypedTree.{NoStatement}
use Rattle.pli_type_tree.specs.TypedTree.{StatementThen, TypedProcedure, OwnVariable, EntryPoint, TypedUnit}
use Rattle.pli_type_tree.specs.TypedTree.{Signature}
use Rattle.pli_value.specs.Value.{Number, Characters}
use Rattle.pli_deck_laws.specs.WellFormed.{IsWellFormed}

-- a number
abbrev pub number : ℕ → TypedExpression
number n = Literal (Number (pos n))

-- FIXED BINARY(15)
abbrev pub small : Description
small = FixedBinary 15

-- the variable that counts
abbrev pub counter : TypedReference
counter = Whole (InSlot 0 0)

-- a call with the variable and with 5
abbrev pub calling : TypedStatement
calling =
    Statement 5
    (Call (OfBlock 1)
    (ByPlace counter (ByDummy small (Calculated (Fit small) (OperandThen (number 5) NoOperand)) NoArgument)))

-- a group that counts from 1 to 3, with that call
abbrev pub counting : TypedStatement
counting =
    Statement 4
    (Iterate
    (record {
      control = counter;
      conversion = ByOperations (Fit small ∷ []);
      start = number 1;
      range = ToBy (number 3) None;
      condition = None;
      temporary = 0;
    }) (StatementThen calling NoStatement))

-- the external procedure, whose variable begins with 7
abbrev pub external : TypedProcedure
external = record {
  is_on_unit = false;
  head = record {
    number = 0;
    statement = 1;
    variables =
        record { description = small; initial = record { offset = 0; value = Number (pos 7) } ∷ [] } ∷ [];
    temporaries = 3;
  };
  parent = None;
  parameters = 0;
  function_end = None;
  statements = StatementThen counting NoStatement;
}

-- the procedure that is called, of two parameters
abbrev pub inner : TypedProcedure
inner = record {
  is_on_unit = false;
  head = record { number = 1; statement = 6; variables = []; temporaries = 0 };
  parent = Some 0;
  parameters = 2;
  function_end = None;
  statements = NoStatement;
}

-- an array of two strings with initial values
abbrev pub names : Template
names = record {
  description = Array (record { low = pos 1; high = pos 2 } ∷ []) (Character 3);
  initial =
      record { offset = 0; value = Characters (codes "ABC") }
      ∷ record { offset = 3; value = Characters (codes "DEF") }
      ∷ [];
}

-- what the entry takes, `E ENTRY(FIXED BIN(15), CHAR(*) VAR) RETURNS(CHAR(3))`
abbrev pub entry_taken : Signature
entry_taken =
    record { parameters = Stated small ∷ AnyString forms.Varying ∷ []; result = Some (Character 3) }

-- `M: PROC OPTIONS(MAIN); DCL X FIXED BIN(15) INIT(7); DCL N(2) CHAR(3) STATIC INIT('ABC', 'DEF'); DO X = 1
-- TO 3; CALL S(X, 5); END; S: PROC(A, B); DCL (A, B) FIXED BIN(15); END S; END M;`, and an entry E that it
-- declares
abbrev pub worked : TypedUnit
worked = record {
  name = codes "M";
  procedure = codes "M";
  is_main = true;
  signature = record { parameters = []; result = None };
  globals =
      OwnVariable Static names
      ∷ EntryPoint (codes "E") entry_taken
      ∷ [];
  procedures = external ∷ inner ∷ [];
}

-- it is numbered well, well formed, and not too long
abbrev pub WorkedIsWellFormed : Type 0
WorkedIsWellFormed =
    IsWellNumbered worked × IsWellFormed worked × (is_too_long (code_of worked) ≡ false)
