-- Worked examples of the translation of extents that are those of the argument.
use Rattle.std.specs.Prelude.{◌≡◌, ℕ, pos, true, false, Some, None, List, [], ◌∷◌, codes}
use Rattle.pli_map.specs.Description.{FixedBinary}
use Rattle.pli_map.specs.ParameterTypes.{Stated, AnyString, AnyArray}
use Rattle.pli_map.specs.declared.dimension.WhichBound.TheVariants.{High}
use Rattle.pli_map.specs.declared.parameter.StringForm.TheVariants as forms
use Rattle.pli_operation.specs.declared.operation.Operation.TheVariants as calculate
use Rattle.pli_value.specs.Value.{Number, Characters}
use Rattle.pli_program.specs.declared.instruction.Instruction.TheVariants as op
use Rattle.pli_type_tree.specs.TypedTree.{InSlot, TypedExpression, Literal, Held, Bounded, TypedReference, Whole}
use Rattle.pli_type_tree.specs.TypedTree.{ElementOf, NoOperand, OperandThen, NoArgument, ByString, OfEntry}
use Rattle.pli_type_tree.specs.TypedTree.{Statement, Assign, AssignString, Call, Iterate, ToPlace}
use Rattle.pli_type_tree.specs.TypedTree.{RepeatedString, NoStatement, StatementThen, EntryPoint, TypedUnit}
use Rattle.pli_type_tree.specs.TypedTree as tree
use Rattle.pli_code.specs.CodeTables as tables
use Rattle.pli_gen_emit.specs.Encoding.{code_of}
use Rattle.pli_gen_emit.specs.TreeTranslation.{list_code, statement_code}

-- the parameter in a slot
abbrev in_slot : ℕ → TypedReference
in_slot n = Whole (InSlot 0 n)

-- its element of two subscripts
abbrev element : TypedReference
element = ElementOf (InSlot 0 0) (OperandThen (Literal (Number (pos 2))) (OperandThen (Held (in_slot 1)) NoOperand))

-- characters
abbrev text : List ℕ → TypedExpression
text characters = Literal (Characters characters)

-- statements 2 and 3: `Q(2, I) = HBOUND(Q, 2); P = 'A';`, Q with the bounds of an argument and P with its length:
-- a subscript for each dimension, with no field before; a bound of the place; a string fitted to the place
abbrev pub ExtentsUsed : Type 0
ExtentsUsed =
    list_code
    (StatementThen (Statement 2 (Assign element (Bounded High 2 (in_slot 0))))
    (StatementThen (Statement 3 (AssignString (in_slot 2) (text (codes "A")))) NoStatement)) 0
    ≡ op.Step 2 ∷ op.Local 0 0 ∷ op.Constant (Number (pos 2)) ∷ op.SubscriptIn 1 ∷ op.Local 0 1 ∷ op.Load
    ∷ op.SubscriptIn 2 ∷ op.Local 0 0 ∷ op.BoundOf High 2 ∷ op.Store
    ∷ op.Step 3 ∷ op.Local 0 2 ∷ op.Constant (Characters (codes "A")) ∷ op.FitToPlace ∷ op.Store ∷ []

-- statement 2: `DO P = 5 REPEAT 'B';`: each value is fitted to the place, after its conversion
abbrev pub ControlFitted : Type 0
ControlFitted =
    statement_code
    (Statement 2 (Iterate
    (record {
      control = in_slot 2;
      conversion = ToPlace (tree.Operate (calculate.ToCharacters 4) ∷ []);
      start = Literal (Number (pos 5));
      range = RepeatedString (text (codes "B"));
      condition = None;
      temporary = 0;
    }) NoStatement)) 0
    ≡ op.Step 2 ∷ op.Constant (Number (pos 5)) ∷ op.SetTemporary 0
    ∷ op.Local 0 2 ∷ op.TakeTemporary 0 ∷ op.Operate (calculate.ToCharacters 4) ∷ op.FitToPlace ∷ op.Store
    ∷ op.Step 2 ∷ op.Line 2 ∷ op.Local 0 2 ∷ op.Constant (Characters (codes "B")) ∷ op.FitToPlace ∷ op.Store
    ∷ op.Jump 8 ∷ []

-- a unit that calls an entry of three parameters, `CHAR(*), (*) FIXED BIN(15), CHAR(*)`, and a result; the call
-- has the first argument alone, since no instruction names what the others are
abbrev pub handing_unit : TypedUnit
handing_unit = record {
  name = codes "M";
  procedure = codes "M";
  is_main = true;
  signature = record { parameters = []; result = None };
  globals =
      EntryPoint (codes "F") (record {
        parameters = AnyString forms.Character ∷ AnyArray 1 (Stated (FixedBinary 15)) ∷ AnyString forms.Character ∷ [];
        result = Some (FixedBinary 15);
      }) ∷ [];
  procedures =
      record {
        is_on_unit = false;
        head = record { number = 0; statement = 1; variables = []; temporaries = 0 };
        parent = None;
        parameters = 0;
        function_end = None;
        statements =
            StatementThen (Statement 2
            (Call (OfEntry 0) (ByString forms.Character (text (codes "AB")) NoArgument))) NoStatement;
      } ∷ [];
}

-- a type with a `*` stands once among the descriptions, and no instruction names one
abbrev pub TypesNumbered : Type 0
TypesNumbered =
    ((code_of handing_unit).descriptions
    ≡ AnyString forms.Character ∷ AnyArray 1 (Stated (FixedBinary 15)) ∷ Stated (FixedBinary 15) ∷ [])
    × ((code_of handing_unit).globals
    ≡ tables.EntryPoint (codes "F") (record { parameters = 0 ∷ 1 ∷ 0 ∷ []; result = Some 2 }) ∷ [])
    × ((code_of handing_unit).templates ≡ [])
