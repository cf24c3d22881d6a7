-- Worked examples of parameters whose extents are those of the argument.
use Rattle.std.specs.Prelude.{ℕ, pos, false, Some, None, List, [], ◌∷◌, ◌++◌, codes}
use Rattle.pli_run.specs.declared.ending.Ending.TheVariants.{Ended, Error}
use Rattle.pli_run.specs.declared.ending.RunError.TheVariants.{SubscriptRange}
use Rattle.pli_map.specs.Description.{Description, FixedBinary, Character, Array}
use Rattle.pli_map.specs.declared.dimension.WhichBound.TheVariants.{Low, High}
use Rattle.pli_map.specs.declared.parameter.StringForm.TheVariants as forms
use Rattle.pli_operation.specs.declared.operation.Operation.TheVariants.{Compare}
use Rattle.pli_operation.specs.declared.operation.Relation.TheVariants.{Equal}
use Rattle.pli_type_tree.specs.TypedTree.{InSlot, OfBlock, Held, Bounded, ElementOf, NoOperand, OperandThen}
use Rattle.pli_type_tree.specs.TypedTree.{NoArgument, ByPlace, ByString, ToPlace, RepeatedString, Iteration}
use Rattle.pli_type_tree.specs.TypedTree.{TypedReference, TypedArguments, TypedStatement, Statement, Form}
use Rattle.pli_type_tree.specs.TypedTree.{Assign, AssignString, Put, Iterate, Call, TypedProcedure}
use Rattle.pli_type_tree.specs.Templates.{Template}
use Rattle.pli_meaning_tree.specs.examples.TreeExamples.{of, listed, main_of, inner_of, Prints, number, slot}
use Rattle.pli_meaning_tree.specs.examples.TreeExamples.{held_in, with_two, text, shown}

-- PUT LIST of a string, in the variable of slot 0
abbrev pub prints_string : Form
prints_string = Put false (held_in 0 0 ∷ [])

-- a procedure calls one of one parameter, and then; that one does this
abbrev pub calling : List Template → TypedArguments → (after inside : List TypedStatement)
    → List TypedProcedure
calling variables arguments after inside =
    main_of variables (listed (Statement 2 (Call (OfBlock 1) arguments) ∷ after))
    ∷ inner_of 1 5 1 None [] (listed inside) ∷ []

-- `CALL S('AB'); S: PROC(P); DCL P CHAR(*); PUT LIST(P);`: a dummy argument is as long as its string
abbrev pub StringIsHanded : Type 0
StringIsHanded =
    Prints (calling [] (ByString forms.Character (text (codes "AB")) NoArgument) []
    (Statement 6 prints_string ∷ []))
    4 (codes "AB ") Ended 4

-- `CALL S('');`: it has one blank for an empty string, and for CHAR(*) VARYING the empty string
abbrev pub NothingIsHanded : Type 0
NothingIsHanded =
    Prints (calling [] (ByString forms.Character (text []) NoArgument) [] (Statement 6 prints_string ∷ []))
    4 (codes "  ") Ended 3
    × Prints (calling [] (ByString forms.Varying (text []) NoArgument) [] (Statement 6 prints_string ∷ []))
    4 (codes " ") Ended 2

-- `DCL V CHAR(3); CALL S(V); PUT LIST(V); S: PROC(P); DCL P CHAR(*); P = '1';`: it is fitted to V
abbrev pub StringIsFitted : Type 0
StringIsFitted =
    Prints (calling (of (Character 3) ∷ []) (ByPlace (slot 0 0) NoArgument) (Statement 3 prints_string ∷ [])
    (Statement 6 (AssignString (slot 0 0) (text (codes "1"))) ∷ []))
    5 (codes "1   ") Ended 5

-- an array (2:4)
abbrev pub three : Description
three = Array (record { low = pos 2; high = pos 4 } ∷ []) (FixedBinary 15)

-- the parameter's element of a number
abbrev pub element_at : ℕ → TypedReference
element_at n = ElementOf (InSlot 0 0) (OperandThen (number n) NoOperand)

-- `DCL A(2:4) FIXED BIN(15); CALL S(A); S: PROC(Q); DCL Q(*) FIXED BIN(15); PUT LIST(LBOUND(Q, 1), HBOUND(Q, 1),
-- Q(2)); Q(5) = 1;`
abbrev pub BoundsAreArguments : Type 0
BoundsAreArguments =
    Prints (calling (of three ∷ []) (ByPlace (slot 0 0) NoArgument) []
    (Statement 6 (Put false (shown (Bounded Low 1 (slot 0 0)) ∷ shown (Bounded High 1 (slot 0 0))
    ∷ shown (Held (element_at 2)) ∷ []))
    ∷ Statement 7 (Assign (element_at 5) (number 1)) ∷ []))
    9
    (codes "   2 " ++ codes "                   " ++ codes "   4 " ++ codes "                   "
    ++ codes "   0 ")
    (Error SubscriptRange (codes "M") 7) 54

-- `DO P = 'A' REPEAT 'BCD' WHILE(P = 'A');` of a parameter CHAR(*)
abbrev pub repeating : Iteration
repeating =
    record {
      control = slot 0 0;
      conversion = ToPlace [];
      start = text (codes "A");
      range = RepeatedString (text (codes "BCD"));
      condition = Some (with_two (Compare Equal) (held_in 0 0) (text (codes "A")));
      temporary = 0;
    }

-- each value is fitted to the argument, a CHAR(2)
abbrev pub ControlIsFitted : Type 0
ControlIsFitted =
    Prints (calling (of (Character 2) ∷ []) (ByPlace (slot 0 0) NoArgument) []
    (Statement 6 (Iterate repeating (listed (Statement 7 prints_string ∷ []))) ∷ Statement 8 prints_string
    ∷ []))
    9 (codes "A  " ++ codes "                     " ++ codes "BC ") Ended 28
