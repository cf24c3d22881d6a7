-- Worked examples of the meaning, in a unit M whose external procedure is block 0 and statement 1.
use Rattle.std.specs.Prelude.{◌≡◌, ℕ, pos, neg_ℤ, true, false, Option, Some, None, List, [], ◌∷◌, ◌++◌}
use Rattle.std.specs.Prelude.{map, codes}
use Rattle.pli_run.specs.declared.ending.Ending.{Ending}
use Rattle.pli_run.specs.declared.ending.Ending.TheVariants.{Ended, OutOfSteps, Error}
use Rattle.pli_run.specs.declared.ending.RunError.{RunError}
use Rattle.pli_run.specs.declared.ending.RunError.TheVariants.{SubscriptRange, FixedOverflow}
use Rattle.pli_run.specs.declared.ending.RunError.TheVariants.{NoReturnedValue, NoGeneration, NullLocator}
use Rattle.pli_run.specs.declared.ending.RunError.TheVariants.{DeadLocator, DescriptionMismatch}
use Rattle.pli_map.specs.Description.{Description, FixedBinary, Array, Pointer, Structure, NoMembers}
use Rattle.pli_map.specs.Description.{MemberThen}
use Rattle.pli_map.specs.ParameterTypes.{Stated}
use Rattle.pli_operation.specs.declared.operation.Operation.{Operation}
use Rattle.pli_operation.specs.declared.operation.Operation.TheVariants.{Add, Subtract, Compare, ToCharacters}
use Rattle.pli_operation.specs.declared.operation.Relation.TheVariants.{Less}
use Rattle.pli_world.specs.World.{nothing, cleared}
use Rattle.pli_program.specs.declared.kind.VariableKind.TheVariants.{Static, Controlled}
use Rattle.pli_value.specs.Value.{Number, Characters, Bits}
use Rattle.pli_type_tree.specs.Templates.{Template}
use Rattle.pli_type_tree.specs.TypedTree.{Fit, Operate, InSlot, OfProgram, OfBlock, OfEntry, TypedExpression}
use Rattle.pli_type_tree.specs.TypedTree.{Literal, Held, Calculated, Called}
use Rattle.pli_type_tree.specs.TypedTree.{TypedReference, Whole, Part, NoOperand, OperandThen, NoSubscript}
use Rattle.pli_type_tree.specs.TypedTree.{SubscriptThen, NoArgument, ByPlace, ByDummy, ByOperations}
use Rattle.pli_type_tree.specs.TypedTree.{TypedStatement, Statement, Form, Assign}
use Rattle.pli_type_tree.specs.TypedTree.{AssignAggregate, Put, If, Begin, Group, While, Iterate, Call, Goto}
use Rattle.pli_type_tree.specs.TypedTree.{Return, Null, TypedRange, Once, ToBy, ByTo, Repeated, Iteration}
use Rattle.pli_type_tree.specs.TypedTree.{ReturnValue, Stop, NoElse, Else, TypedStatements, NoStatement}
use Rattle.pli_type_tree.specs.TypedTree.{StatementThen, TypedProcedure, Signature, Global, OwnVariable}
use Rattle.pli_type_tree.specs.TypedTree.{ExternalVariable, EntryPoint, TypedUnit, NewestOf, Generations}
use Rattle.pli_type_tree.specs.TypedTree.{Allocate, AllocatesControlled, Free, FreesControlled, Located}
use Rattle.pli_type_tree.specs.TypedTree.{Address, AllocatesBased, FreesBased}
use Rattle.pli_meaning_tree.specs.Effects.{Label, Effect, Gives, Jumps, Flow, Next, Doing}
use Rattle.pli_meaning_tree.specs.TreeMeaning.{as_list}
use Rattle.pli_meaning_tree.specs.ProgramMeaning.{TypedProgram, whole_run}

-- variables without initial values
abbrev pub of : Description → Template
of d = record { description = d; initial = [] }

-- a list of statements
abbrev pub listed : List TypedStatement → TypedStatements
listed [] = NoStatement
listed (s ∷ ss) = StatementThen s (listed ss)

-- a procedure without a block around it and without parameters, which is block 0
abbrev pub main_of : List Template → TypedStatements → TypedProcedure
main_of variables statements =
    record {
      is_on_unit = false;
      head = record { number = 0; statement = 1; variables = variables; temporaries = 0 };
      parent = None;
      parameters = 0;
      function_end = None;
      statements = statements;
    }

-- a procedure in it, of a number, that begins at a statement; a function has the number of its END
abbrev pub inner_of : (number statement parameters : ℕ) → Option ℕ → List Template → TypedStatements
    → TypedProcedure
inner_of number statement parameters function_end variables statements =
    record {
      is_on_unit = false;
      head =
          record { number = number; statement = statement; variables = variables; temporaries = 0 };
      parent = Some 0;
      parameters = parameters;
      function_end = function_end;
      statements = statements;
    }

-- a unit of a name, which its procedure has too
abbrev pub unit_of : (name : List ℕ) → Signature → List Global → List TypedProcedure → TypedUnit
unit_of name signature globals procedures = record {
  name = name;
  procedure = name;
  is_main = false;
  signature = signature;
  globals = globals;
  procedures = procedures;
}

-- what takes nothing and gives nothing
abbrev pub nothing_given : Signature
nothing_given = record { parameters = []; result = None }

-- the program of one unit M of these procedures
abbrev pub program_of : List TypedProcedure → TypedProgram
program_of procedures = record {
  units = unit_of (codes "M") nothing_given [] procedures ∷ [];
  main = 0;
  greatest = 63;
}

-- what so many steps of a program give
abbrev pub Prints : List TypedProcedure → (steps : ℕ) → List ℕ → Ending → (column : ℕ) → Type 0
Prints procedures steps output ending column =
    whole_run (program_of procedures) steps
    ≡ Some (record { output = output; ending = ending; column = column })

-- a number
abbrev pub number : ℕ → TypedExpression
number n = Literal (Number (pos n))

-- the variable of a slot, of this activation or of one outward
abbrev pub slot : (outward number : ℕ) → TypedReference
slot outward number = Whole (InSlot outward number)

-- what it holds
abbrev pub held_in : (outward number : ℕ) → TypedExpression
held_in outward number = Held (slot outward number)

-- an operation on two
abbrev pub with_two : Operation → TypedExpression → TypedExpression → TypedExpression
with_two operation e f = Calculated (Operate operation) (OperandThen e (OperandThen f NoOperand))

-- characters
abbrev pub text : List ℕ → TypedExpression
text characters = Literal (Characters characters)

-- a number as characters of 4 columns
abbrev pub shown : TypedExpression → TypedExpression
shown e = Calculated (Operate (ToCharacters 4)) (OperandThen e NoOperand)

-- PUT LIST of a text
abbrev pub prints : List ℕ → Form
prints characters = Put false (text characters ∷ [])

-- PUT LIST of a number
abbrev pub prints_number : TypedExpression → Form
prints_number e = Put false (shown e ∷ [])

-- `X = X + n;`, X being slot 0
abbrev pub adds : ℕ → Form
adds n = Assign (slot 0 0) (with_two Add (held_in 0 0) (number n))

-- `X < n`
abbrev pub is_less : ℕ → TypedExpression
is_less n = with_two (Compare Less) (held_in 0 0) (number n)

-- the program of one procedure with these variables and statements
abbrev pub alone : List Description → List TypedStatement → List TypedProcedure
alone variables statements = main_of (map of variables) (listed statements) ∷ []

-- a pair of numbers
abbrev pub pair : Description
pair = Array (record { low = pos 1; high = pos 2 } ∷ []) (FixedBinary 15)

-- its element of a number, in the variable of a slot
abbrev pub element : (slot subscript : ℕ) → TypedReference
element s n =
    Part (InSlot 0 s) 0 (FixedBinary 15)
    (SubscriptThen (record { low = pos 1; high = pos 2; multiplier = 2 }) (number n) NoSubscript)

-- a call of block 1 with a value
abbrev pub of_one : TypedExpression → TypedExpression
of_one e = Called (OfBlock 1) (ByDummy (FixedBinary 31) e NoArgument)

-- `DO WHILE(X < 2); X = X + 1; PUT LIST(X); END;`
abbrev pub counting : List TypedProcedure
counting =
    alone (FixedBinary 15 ∷ []) (Statement 2 (While (is_less 2)
    (listed (Statement 3 (adds 1) ∷ Statement 4 (prints_number (held_in 0 0)) ∷ []))) ∷ [])

-- the activation, the group, and three steps for each of two turns
abbrev pub LoopEnds : Type 0
LoopEnds = Prints counting 8 (codes "   1 " ++ codes "                   " ++ codes "   2 ") Ended 30

-- with a step less the second PUT is not begun
abbrev pub LoopStops : Type 0
LoopStops = Prints counting 7 (codes "   1 ") OutOfSteps 6

-- `IF X < 1 THEN PUT LIST('A'); ELSE PUT LIST('B');` prints A, as X begins as zero; a step each
abbrev pub IfChooses : Type 0
IfChooses =
    Prints (alone (FixedBinary 15 ∷ []) (Statement 2 (If (is_less 1)
    (Statement 3 (prints (codes "A"))) (Else (Statement 4 (prints (codes "B"))))) ∷ []))
    3 (codes "A ") Ended 3

-- `A(3) = 9223372036854775807 + 1;` with A(2): the error of the target comes before the value is evaluated
abbrev pub SubscriptIsTested : Type 0
SubscriptIsTested =
    Prints (alone (pair ∷ [])
    (Statement 2 (Assign (element 0 3) (with_two Add (number 9223372036854775807) (number 1))) ∷ []))
    9 [] (Error SubscriptRange (codes "M") 2) 1

-- `A(2) = 7; B = A; PUT LIST(B(2));`: what one aggregate holds is copied to the other
abbrev pub AggregateIsCopied : Type 0
AggregateIsCopied =
    Prints (alone (pair ∷ pair ∷ []) (Statement 2 (Assign (element 0 2) (number 7))
    ∷ Statement 3 (AssignAggregate (slot 0 1) (slot 0 0))
    ∷ Statement 4 (prints_number (Held (element 1 2))) ∷ []))
    4 (codes "   7 ") Ended 6

-- `PUT SKIP LIST('101'B, 'A');`: the line ends first, and bits are printed as a constant
abbrev pub BitsArePrinted : Type 0
BitsArePrinted =
    Prints (alone []
    (Statement 2 (Put true (Literal (Bits (true ∷ false ∷ true ∷ [])) ∷ text (codes "A") ∷ [])) ∷ []))
    2 (10 ∷ codes "'101'B                  A ") Ended 27

-- each item is written before the next is evaluated
abbrev pub ItemBeforeIsWritten : Type 0
ItemBeforeIsWritten =
    Prints (alone [] (Statement 2 (Put false (text (codes "A")
    ∷ shown (with_two Add (number 9223372036854775807) (number 1)) ∷ [])) ∷ []))
    9 (codes "A ") (Error FixedOverflow (codes "M") 2) 3

-- `PUT LIST(F(3));` and a function F(N): `IF N < 1 THEN RETURN(0); RETURN(N + F(N - 1));`
abbrev pub summing : List TypedProcedure
summing =
    main_of [] (listed (Statement 2 (prints_number (of_one (number 3))) ∷ []))
    ∷ inner_of 1 3 1 (Some 7) []
    (listed (Statement 4 (If (is_less 1) (Statement 5 (ReturnValue 0 (number 0))) NoElse)
    ∷ Statement 6 (ReturnValue 0
    (with_two Add (held_in 0 0) (of_one (with_two Subtract (held_in 0 0) (number 1))))) ∷ [])) ∷ []

-- the activation and PUT, and three steps for each activation of F
abbrev pub FunctionCallsItself : Type 0
FunctionCallsItself = Prints summing 14 (codes "   6 ") Ended 6

-- with a step less nothing is printed
abbrev pub FunctionStops : Type 0
FunctionStops = Prints summing 13 [] OutOfSteps 1

-- an argument that is handed over as a place is changed by the procedure: `P = P + 5;`
abbrev pub ByReferenceChanges : Type 0
ByReferenceChanges =
    Prints (main_of (of (FixedBinary 15) ∷ [])
    (listed (Statement 2 (Call (OfBlock 1) (ByPlace (slot 0 0) NoArgument))
    ∷ Statement 3 (prints_number (held_in 0 0)) ∷ []))
    ∷ inner_of 1 4 1 None [] (listed (Statement 5 (adds 5) ∷ [])) ∷ [])
    5 (codes "   5 ") Ended 6

-- a function that reaches its END, at statement 4, is in error there
abbrev pub NoValueIsReturned : Type 0
NoValueIsReturned =
    Prints (main_of [] (listed (Statement 2 (prints_number (Called (OfBlock 1) NoArgument)) ∷ []))
    ∷ inner_of 1 3 0 (Some 4) [] NoStatement ∷ [])
    9 [] (Error NoReturnedValue (codes "M") 4) 1

-- a BEGIN block without variables
abbrev pub begins : (number statement : ℕ) → List TypedStatement → Form
begins n s statements =
    Begin (record { number = n; statement = s; variables = []; temporaries = 0 }) (listed statements)

-- `BEGIN; GOTO L; PUT LIST('A'); END; PUT LIST('B'); L: PUT LIST('C');` prints C: L is one link outward
abbrev pub GotoLeavesBlock : Type 0
GotoLeavesBlock =
    Prints (alone []
    (Statement 2 (begins 1 2 (Statement 3 (Goto 1 7) ∷ Statement 4 (prints (codes "A")) ∷ []))
    ∷ Statement 6 (prints (codes "B")) ∷ Statement 7 (prints (codes "C")) ∷ []))
    4 (codes "C ") Ended 3

-- a GOTO out of a function ends the statement that has called it
abbrev pub GotoLeavesCall : Type 0
GotoLeavesCall =
    Prints (main_of [] (listed (Statement 2 (Put false (text (codes "A") ∷ shown (of_one (number 3)) ∷ []))
    ∷ Statement 3 (prints (codes "B")) ∷ Statement 4 (prints (codes "C")) ∷ []))
    ∷ inner_of 1 5 1 (Some 7) [] (listed (Statement 6 (Goto 1 4) ∷ [])) ∷ [])
    5 (codes "A                       C ") Ended 27

-- a GOTO to a group begins it anew, from within it too: `L: DO; X = X + 1; IF X < 2 THEN GOTO L; END;`
abbrev pub GotoGroupBeginsAnew : Type 0
GotoGroupBeginsAnew =
    Prints (alone (FixedBinary 15 ∷ []) (Statement 2 (Group (listed (Statement 3 (adds 1)
    ∷ Statement 4 (If (is_less 2) (Statement 5 (Goto 0 2)) NoElse) ∷ []))) ∷ []))
    8 [] Ended 1

-- label 7 of a unit
abbrev pub seven_of : (unit : ℕ) → Label
seven_of unit = record { unit = unit; number = 7 }

-- from its front a list jumps to a label, and from a label it ends at once
abbrev pub jumps_first : Label → (from : Option Label) → Doing Flow
jumps_first label None w left = Jumps 0 label w left
jumps_first label (Some own) w left = Gives Next w left

-- what such a list comes to, which is of unit 0 and holds statement 7
abbrev pub jump_in_list : Label → Effect Flow
jump_in_list label =
    as_list 2 0 (listed (Statement 7 Null ∷ [])) (jumps_first label) nothing 5

-- the list catches a jump to its own label, and not one to the label of the same number of another unit
abbrev pub LabelsAreOfUnits : Type 0
LabelsAreOfUnits =
    (jump_in_list (seven_of 0) ≡ Gives Next (cleared nothing) 5)
    × (jump_in_list (seven_of 1) ≡ Jumps 0 (seven_of 1) nothing 5)

-- RETURN in a BEGIN block returns from the procedure, and STOP ends the run
abbrev pub ReturnLeavesBlock : Type 0
ReturnLeavesBlock =
    Prints (main_of [] (listed (Statement 2 (Call (OfBlock 1) NoArgument) ∷ Statement 3 Stop
    ∷ Statement 4 (prints (codes "A")) ∷ []))
    ∷ inner_of 1 5 0 None [] (listed (Statement 6 (begins 2 6 (Statement 7 (Return 1) ∷ []))
    ∷ Statement 9 (prints (codes "B")) ∷ [])) ∷ [])
    6 [] Ended 1

-- a group whose control variable is X, of so many binary digits, without WHILE; it begins at a number
abbrev pub from_number : (precision start : ℕ) → TypedRange → Iteration
from_number precision start range =
    record {
      control = slot 0 0;
      conversion = ByOperations (Fit (FixedBinary precision) ∷ []);
      start = number start;
      range = range;
      condition = None;
      temporary = 0;
    }

-- a program of this group alone, whose variable has so many digits
abbrev pub iterating : (precision start : ℕ) → TypedRange → List TypedStatement → List TypedProcedure
iterating precision start range statements =
    alone (FixedBinary precision ∷ [])
    (Statement 2 (Iterate (from_number precision start range) (listed statements)) ∷ [])

-- `DO X = 1 TO 3; END;`: the activation, the group, and a step for each turn
abbrev pub TurnsAreSteps : Type 0
TurnsAreSteps =
    Prints (iterating 15 1 (ToBy (number 3) None) []) 5 [] Ended 1
    × Prints (iterating 15 1 (ToBy (number 3) None) []) 4 [] OutOfSteps 1

-- `DO X = 2 TO 1; END;` has no turn, and `DO X = 1; END;` has one
abbrev pub NoTurnAndOne : Type 0
NoTurnAndOne =
    Prints (iterating 15 2 (ToBy (number 1) None) []) 2 [] Ended 1
    × Prints (iterating 15 1 Once []) 3 [] Ended 1

-- `DO X = 9 TO G(); END;` with X of 3 digits: G is called, and then 9 does not fit, which is an error of the
-- group
abbrev pub StartMustFit : Type 0
StartMustFit =
    Prints (main_of (of (FixedBinary 3) ∷ []) (listed (Statement 2
    (Iterate (from_number 3 9 (ToBy (Called (OfBlock 1) NoArgument) None)) NoStatement) ∷ []))
    ∷ inner_of 1 3 0 (Some 6) []
    (listed (Statement 4 (prints (codes "G")) ∷ Statement 5 (ReturnValue 0 (number 3)) ∷ [])) ∷ [])
    9 (codes "G ") (Error FixedOverflow (codes "M") 2) 3

-- `DO X = 5 BY -2 TO 2; PUT LIST(X); END;`
abbrev pub StepMayBeNegative : Type 0
StepMayBeNegative =
    Prints (iterating 15 5 (ByTo (Literal (Number (neg_ℤ (pos 2)))) (Some (number 2)))
    (Statement 3 (prints_number (held_in 0 0)) ∷ []))
    6 (codes "   5                       3 ") Ended 30

-- `DO X = 7 TO 8; ; END;` with X of 3 digits: 8 does not fit, which is an error of the group
abbrev pub StepOverflows : Type 0
StepOverflows =
    Prints (iterating 3 7 (ToBy (number 8) None) (Statement 3 Null ∷ []))
    9 [] (Error FixedOverflow (codes "M") 2) 1

-- `DO X = 1 TO 2; X = X + 1; END;`: the variable is looked at anew, so there is one turn
abbrev pub VariableIsLookedAtAnew : Type 0
VariableIsLookedAtAnew =
    Prints (iterating 15 1 (ToBy (number 2) None) (Statement 3 (adds 1) ∷ [])) 4 [] Ended 1

-- `DO X = 1 REPEAT X + X WHILE(X < 5); PUT LIST(X); END;`
abbrev pub RepeatGoesOn : Type 0
RepeatGoesOn =
    Prints (alone (FixedBinary 15 ∷ []) (Statement 2 (Iterate (record {
      control = slot 0 0;
      conversion = ByOperations (Fit (FixedBinary 15) ∷ []);
      start = number 1;
      range = Repeated (with_two Add (held_in 0 0) (held_in 0 0));
      condition = Some (is_less 5);
      temporary = 0;
    }) (listed (Statement 3 (prints_number (held_in 0 0)) ∷ []))) ∷ []))
    8 (codes "   1                       2                       4 ") Ended 54

-- what N is, a function of a number
abbrev pub numeric : Signature
numeric = record { parameters = Stated (FixedBinary 31) ∷ []; result = Some (FixedBinary 31) }

-- X, which both units share
abbrev pub shared : TypedReference
shared = Whole (OfProgram 0)

-- a program of two units: `PUT LIST(N(3), X);` in M, and N, whose parameter A is slot 0, with these
-- statements
abbrev pub two_units : (statements : List TypedStatement) → TypedProgram
two_units statements = record {
  units =
      unit_of (codes "M") nothing_given
      (ExternalVariable (codes "X") Static (of (FixedBinary 31)) ∷ EntryPoint (codes "N") numeric ∷ [])
      (main_of [] (listed (Statement 2 (Put false
      (shown (Called (OfEntry 1) (ByDummy (FixedBinary 31) (number 3) NoArgument)) ∷ shown (Held shared)
      ∷ [])) ∷ [])) ∷ [])
      ∷ unit_of (codes "N") numeric (ExternalVariable (codes "X") Static (of (FixedBinary 31)) ∷ [])
      (record {
        is_on_unit = false;
        head = record { number = 0; statement = 1; variables = []; temporaries = 0 };
        parent = None;
        parameters = 1;
        function_end = Some 5;
        statements = listed statements;
      } ∷ []) ∷ [];
  main = 0;
  greatest = 63;
}

-- `X = A; RETURN(A + A);`: the activations, PUT, and two statements
abbrev pub UnitsShare : Type 0
UnitsShare =
    whole_run (two_units (Statement 2 (Assign shared (held_in 0 0))
    ∷ Statement 3 (ReturnValue 0 (with_two Add (held_in 0 0) (held_in 0 0))) ∷ [])) 5
    ≡ Some (record {
      output = codes "   6 " ++ codes "                   " ++ codes "   3 ";
      ending = Ended;
      column = 30;
    })

-- an error in N names it
abbrev pub UnitFails : Type 0
UnitFails =
    whole_run
    (two_units (Statement 2 (Assign shared (with_two Add (number 9223372036854775807) (number 1))) ∷ [])) 9
    ≡ Some (record { output = []; ending = Error FixedOverflow (codes "N") 2; column = 1 })

-- a program whose unit M has a CONTROLLED variable C that begins with 7, and these statements
abbrev pub controlled : List TypedStatement → TypedProgram
controlled statements = record {
  units =
      unit_of (codes "M") nothing_given
      (OwnVariable Controlled (record {
        description = FixedBinary 31;
        initial = record { offset = 0; value = Number (pos 7) } ∷ [];
      }) ∷ [])
      (main_of [] (listed statements) ∷ []) ∷ [];
  main = 0;
  greatest = 63;
}

-- C
abbrev pub newest : TypedReference
newest = Whole (NewestOf 0)

-- `PUT SKIP LIST(ALLOCATION(C)); PUT SKIP LIST(C);`
abbrev pub counts : (first second : ℕ) → List TypedStatement
counts first second =
    Statement first (Put true (shown (Generations 0) ∷ []))
    ∷ Statement second (Put true (shown (Held newest) ∷ [])) ∷ []

-- `ALLOCATE C; C = 1; ALLOCATE C, C;`, and C is 7; `FREE C, C;`, and it is 1
abbrev pub NewestIsMeant : Type 0
NewestIsMeant =
    whole_run (controlled (Statement 2 (Allocate (AllocatesControlled 0 ∷ []))
    ∷ Statement 3 (Assign newest (number 1))
    ∷ Statement 4 (Allocate (AllocatesControlled 0 ∷ AllocatesControlled 0 ∷ []))
    ∷ counts 5 6
    ++ Statement 7 (Free (FreesControlled 0 ∷ FreesControlled 0 ∷ [])) ∷ counts 8 9)) 9
    ≡ Some (record {
      output = 10 ∷ codes "   3 " ++ 10 ∷ codes "   7 " ++ 10 ∷ codes "   1 " ++ 10 ∷ codes "   1 ";
      ending = Ended;
      column = 6;
    })

-- what prints error E6 at a statement
abbrev pub HasNone : (statement : ℕ) → List TypedStatement → Type 0
HasNone statement statements =
    whole_run (controlled statements) 9
    ≡ Some (record { output = []; ending = Error NoGeneration (codes "M") statement; column = 1 })

-- `C = 1;`, `FREE C;`, and `ALLOCATE C; FREE C, C;`, where there is no generation
abbrev pub NoneIsLeft : Type 0
NoneIsLeft =
    HasNone 2 (Statement 2 (Assign newest (number 1)) ∷ [])
    × HasNone 2 (Statement 2 (Free (FreesControlled 0 ∷ [])) ∷ [])
    × HasNone 3 (Statement 2 (Allocate (AllocatesControlled 0 ∷ []))
    ∷ Statement 3 (Free (FreesControlled 0 ∷ FreesControlled 0 ∷ [])) ∷ [])

-- `1 N BASED, 2 V FIXED BIN(31), 2 NEXT PTR`
abbrev pub node : Description
node = Structure (MemberThen (FixedBinary 31) (MemberThen Pointer NoMembers))

-- V by a locator
abbrev pub number_by : TypedExpression → TypedReference
number_by e = Part (Located e node) 0 (FixedBinary 31) NoSubscript

-- NEXT by a locator
abbrev pub next_by : TypedExpression → TypedReference
next_by e = Part (Located e node) 4 Pointer NoSubscript

-- `ALLOCATE N SET(P); P -> V = n; P -> NEXT = H; H = P;`
abbrev pub links : (first second third fourth n : ℕ) → List TypedStatement
links first second third fourth n =
    Statement first (Allocate (AllocatesBased (of node) 0 (slot 0 0) ∷ []))
    ∷ Statement second (Assign (number_by (held_in 0 0)) (number n))
    ∷ Statement third (Assign (next_by (held_in 0 0)) (held_in 0 1))
    ∷ Statement fourth (Assign (slot 0 1) (held_in 0 0)) ∷ []

-- so with 1 and with 2; `PUT LIST(P -> V, P -> NEXT -> V);`
abbrev pub ListIsLinked : Type 0
ListIsLinked =
    Prints
    (main_of (of Pointer ∷ of Pointer ∷ [])
    (listed (links 2 3 4 5 1 ++ links 6 7 8 9 2
    ++ Statement 10 (Put false (shown (Held (number_by (held_in 0 0)))
    ∷ shown (Held (number_by (Held (next_by (held_in 0 0))))) ∷ [])) ∷ [])) ∷ []) 10
    (codes "   2 " ++ codes "                   " ++ codes "   1 ") Ended 30

-- a procedure with a POINTER variable P and an X of FIXED BINARY(31)
abbrev pub pointing : List TypedStatement → List TypedProcedure
pointing statements = main_of (of Pointer ∷ of (FixedBinary 31) ∷ []) (listed statements) ∷ []

-- `P -> Y`, Y BASED of a description
abbrev pub by_pointer : Description → TypedReference
by_pointer d = Whole (Located (held_in 0 0) d)

-- `P = ADDR(X);`
abbrev pub takes_address : (statement : ℕ) → TypedStatement
takes_address statement = Statement statement (Assign (slot 0 0) (Address (slot 0 1)))

-- `ALLOCATE Y SET(P);`
abbrev pub allocates_number : (statement : ℕ) → TypedStatement
allocates_number statement =
    Statement statement (Allocate (AllocatesBased (of (FixedBinary 31)) 0 (slot 0 0) ∷ []))

-- `FREE P -> Y;`
abbrev pub frees_number : (statement : ℕ) → TypedStatement
frees_number statement = Statement statement (Free (FreesBased (held_in 0 0) (FixedBinary 31) ∷ []))

-- `P = ADDR(X); P -> Y = 5; PUT LIST(X);`
abbrev pub AddressIsMeant : Type 0
AddressIsMeant =
    Prints
    (pointing (takes_address 2 ∷ Statement 3 (Assign (by_pointer (FixedBinary 31)) (number 5))
    ∷ Statement 4 (prints_number (held_in 0 1)) ∷ [])) 4 (codes "   5 ") Ended 6

-- what ends by an error at a statement
abbrev pub FailsBy : RunError → (statement : ℕ) → List TypedStatement → Type 0
FailsBy e statement statements = Prints (pointing statements) 9 [] (Error e (codes "M") statement) 1

-- `PUT LIST(P -> Y);` where P is null; where what it led to was freed; and where X is there instead, which is
-- FIXED BINARY(31), but Y is FIXED BINARY(15)
abbrev pub LeadsNowhere : Type 0
LeadsNowhere =
    FailsBy NullLocator 2 (Statement 2 (prints_number (Held (by_pointer (FixedBinary 31)))) ∷ [])
    × FailsBy DeadLocator 4
    (allocates_number 2 ∷ frees_number 3
    ∷ Statement 4 (prints_number (Held (by_pointer (FixedBinary 31)))) ∷ [])
    × FailsBy DescriptionMismatch 3
    (takes_address 2 ∷ Statement 3 (prints_number (Held (by_pointer (FixedBinary 15)))) ∷ [])

-- FREE of null, of what was freed, and of X
abbrev pub IsNotFreed : Type 0
IsNotFreed =
    FailsBy NullLocator 2 (frees_number 2 ∷ [])
    × FailsBy DeadLocator 4 (allocates_number 2 ∷ frees_number 3 ∷ frees_number 4 ∷ [])
    × FailsBy DescriptionMismatch 3 (takes_address 2 ∷ frees_number 3 ∷ [])
