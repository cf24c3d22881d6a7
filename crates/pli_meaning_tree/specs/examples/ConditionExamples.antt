-- Worked examples of conditions, in a unit M whose external procedure is block 0 and statement 1.
use Rattle.std.specs.Prelude.{◌≡◌, ℕ, suc, true, false, Some, None, List, [], ◌∷◌, ◌++◌, map, codes}
use Rattle.pli_base.specs.declared.statement.Condition.TheVariants as condition
use Rattle.pli_run.specs.declared.ending.Ending.{Ending}
use Rattle.pli_run.specs.declared.ending.Ending.TheVariants.{Ended, OutOfSteps, Error}
use Rattle.pli_run.specs.declared.ending.RunError.TheVariants as error
use Rattle.pli_map.specs.Description.{Description, FixedBinary, Character, Pointer, Area}
use Rattle.pli_operation.specs.declared.operation.Operation.TheVariants.{Add, Divide, ToCharacters}
use Rattle.pli_program.specs.declared.kind.VariableKind.TheVariants.{Controlled}
use Rattle.pli_type_tree.specs.TypedTree.{Fit, Operate, NewestOf, OfBlock, OfEntry, TypedExpression}
use Rattle.pli_type_tree.specs.TypedTree.{Held, Calculated, Generations, Whole, OperandThen, NoOperand}
use Rattle.pli_type_tree.specs.TypedTree.{NoArgument, ByDummy, ByOperations, ToBy, TypedStatement, Statement}
use Rattle.pli_type_tree.specs.TypedTree.{Form, Null, Assign, AssignArea, Put, Allocate, AllocatesControlled}
use Rattle.pli_type_tree.specs.TypedTree.{AllocatesInArea, Free, FreesControlled, FreesBased, If, Group, Goto}
use Rattle.pli_type_tree.specs.TypedTree.{Iterate, Call, On, Revert, Signal, NoElse, Else, TypedProcedure}
use Rattle.pli_type_tree.specs.TypedTree.{EntryPoint, OwnVariable}
use Rattle.pli_meaning_tree.specs.ProgramMeaning.{whole_run}
use Rattle.pli_meaning_tree.specs.examples.AreaExamples.{area, allocates, pointer_of, with_pointers}
use Rattle.pli_meaning_tree.specs.examples.AreaExamples.{allocates_block, allocates_blocks}
use Rattle.pli_meaning_tree.specs.examples.TreeExamples.{of, listed, main_of, inner_of, unit_of}
use Rattle.pli_meaning_tree.specs.examples.TreeExamples.{nothing_given, Prints, number, slot, held_in}
use Rattle.pli_meaning_tree.specs.examples.TreeExamples.{with_two, shown, prints, prints_number, adds}
use Rattle.pli_meaning_tree.specs.examples.TreeExamples.{is_less, begins, from_number}

-- an ON-unit of a number with its one statement, whose ON stands in a block
abbrev pub unit_in : (number statement parent : ℕ) → TypedStatement → TypedProcedure
unit_in number statement parent s =
    record {
      is_on_unit = true;
      head = record { number = number; statement = statement; variables = []; temporaries = 0 };
      parent = Some parent;
      parameters = 0;
      function_end = None;
      statements = listed (s ∷ []);
    }

-- the procedure of M with these variables and statements
abbrev pub main_with : List Description → List TypedStatement → TypedProcedure
main_with variables statements = main_of (map of variables) (listed statements)

-- M without variables and with one ON-unit for FIXEDOVERFLOW, statement 2 of statement 3
abbrev pub on_overflow : (unit : Form) → List TypedStatement → List TypedProcedure
on_overflow unit statements =
    main_with [] (Statement 2 (On condition.FixedOverflow 1) ∷ statements)
    ∷ unit_in 1 2 0 (Statement 3 unit) ∷ []

-- `SIGNAL FOFL;`
abbrev pub signals : (statement : ℕ) → TypedStatement
signals statement = Statement statement (Signal condition.FixedOverflow)

-- `REVERT FOFL;`
abbrev pub reverts : Form
reverts = Revert condition.FixedOverflow

-- `ON FOFL PUT LIST('F'); SIGNAL FOFL; REVERT FOFL; SIGNAL FOFL;`
abbrev pub RevertRemoves : Type 0
RevertRemoves =
    Prints (on_overflow (prints (codes "F")) (signals 4 ∷ Statement 5 reverts ∷ signals 6 ∷ []))
    9 (codes "F ") (Error error.FixedOverflow (codes "M") 6) 3

-- `ON FOFL; SIGNAL FOFL;` is 5 steps, and `ON FOFL GOTO L; SIGNAL FOFL; L: ;` 6
abbrev pub UnitIsSteps : Type 0
UnitIsSteps =
    returns 5 Ended × returns 4 OutOfSteps × leaves 6 Ended × leaves 5 OutOfSteps
  where
    returns : (steps : ℕ) → Ending → Type 0
    returns steps e = Prints (on_overflow Null (signals 4 ∷ [])) steps [] e 1

    leaves : (steps : ℕ) → Ending → Type 0
    leaves steps e = Prints (on_overflow (Goto 1 5) (signals 4 ∷ Statement 5 Null ∷ [])) steps [] e 1

-- `ON FOFL REVERT FOFL; SIGNAL FOFL; SIGNAL FOFL;`: REVERT is of the unit's own activation
abbrev pub UnitStays : Type 0
UnitStays = Prints (on_overflow reverts (signals 4 ∷ signals 5 ∷ [])) 8 [] Ended 1

-- `ON FOFL SIGNAL FOFL; SIGNAL FOFL;`: a unit stays while it runs, till there are too many activations
abbrev pub UnitsAreMany : Type 0
UnitsAreMany =
    Prints (on_overflow (Signal condition.FixedOverflow) (signals 4 ∷ [])) 2100 []
    (Error error.TooManyActivations (codes "M") 3) 1

-- `ON FOFL PUT LIST('A'); ON FOFL PUT LIST('B'); REVERT ZDIV; SIGNAL FOFL;` prints B
abbrev pub SecondTakesPlace : Type 0
SecondTakesPlace =
    Prints
    (main_with []
    (Statement 2 (On condition.FixedOverflow 1) ∷ Statement 4 (On condition.FixedOverflow 2)
    ∷ Statement 6 (Revert condition.ZeroDivide) ∷ signals 7 ∷ [])
    ∷ unit_in 1 2 0 (Statement 3 (prints (codes "A")))
    ∷ unit_in 2 4 0 (Statement 5 (prints (codes "B"))) ∷ [])
    9 (codes "B ") Ended 3

-- `CALL R(1); R: PROC(N); DCL N FIXED BIN(31); IF N < 2 THEN DO; ON FOFL PUT LIST(N); CALL R(N + 1); END;
-- ELSE SIGNAL FOFL; END R;` prints 1: N is that of the activation that has established the unit
abbrev pub NamesAreOfOn : Type 0
NamesAreOfOn =
    Prints
    (main_with [] (Statement 2 (calls (number 1)) ∷ [])
    ∷ inner_of 1 3 1 None []
    (listed (Statement 5 (If (is_less 2)
    (Statement 6 (Group (listed (Statement 7 (On condition.FixedOverflow 2)
    ∷ Statement 9 (calls (with_two Add (held_in 0 0) (number 1))) ∷ [])))) (Else (signals 11))) ∷ []))
    ∷ unit_in 2 7 1 (Statement 8 (prints_number (held_in 1 0))) ∷ []) 12 (codes "   1 ") Ended 6
  where
    calls : TypedExpression → Form
    calls e = Call (OfBlock 1) (ByDummy (FixedBinary 31) e NoArgument)

-- `DCL X FIXED BIN(3); ON FOFL PUT LIST('F'); X = 9223372036854775807 + 1 + 100; PUT LIST(X);`: the sum is 0,
-- and 100 does not fit
abbrev pub ZeroStandsAfter : Type 0
ZeroStandsAfter =
    Prints
    (main_with (FixedBinary 3 ∷ [])
    (Statement 3 (On condition.FixedOverflow 1)
    ∷ Statement 5 (Assign (slot 0 0) (Calculated (Fit (FixedBinary 3)) (OperandThen
    (with_two Add (with_two Add (number 9223372036854775807) (number 1)) (number 100)) NoOperand)))
    ∷ Statement 6 (prints_number (held_in 0 0)) ∷ [])
    ∷ unit_in 1 3 0 (Statement 4 (prints (codes "F"))) ∷ [])
    8 (codes "F                       F                          0 ") Ended 54

-- a number as characters of 14 columns
abbrev pub wide : TypedExpression → TypedExpression
wide e = Calculated (Operate (ToCharacters 14)) (OperandThen e NoOperand)

-- `DIVIDE(1, 0, 31)`
abbrev pub divided : TypedExpression
divided = with_two (Divide 31) (number 1) (number 0)

-- `S: PROC; DCL X FIXED BIN(31); X = e; PUT LIST(X); END S;`
abbrev pub setting : (block statement : ℕ) → TypedExpression → TypedProcedure
setting block statement e =
    inner_of block statement 0 None (of (FixedBinary 31) ∷ [])
    (listed (Statement (suc (suc statement)) (Assign (slot 0 0) e)
    ∷ Statement (suc (suc (suc statement))) (Put false (wide (held_in 0 0) ∷ [])) ∷ []))

-- `CALL S;`, the procedure of a block
abbrev pub calls_block : (statement block : ℕ) → TypedStatement
calls_block statement block = Statement statement (Call (OfBlock block) NoArgument)

-- `ON ZERODIVIDE PUT LIST('ZD'); CALL S;` with X = 1 + DIVIDE(1, 0, 31) in S; and without the ON
abbrev pub ZeroDivideUnit : Type 0
ZeroDivideUnit =
    guarded 8 (codes "ZD                                   1 ") Ended 40
    × guarded 7 (codes "ZD ") OutOfSteps 4 × guarded 6 [] OutOfSteps 1
    × Prints (main_with [] (calls_block 2 1 ∷ []) ∷ setting 1 3 one_more ∷ [])
    9 [] (Error error.ZeroDivide (codes "M") 5) 1
  where
    one_more : TypedExpression
    one_more = with_two Add (number 1) divided

    guarded : (steps : ℕ) → List ℕ → Ending → (column : ℕ) → Type 0
    guarded steps output e column =
        Prints (main_with [] (Statement 2 (On condition.ZeroDivide 1) ∷ calls_block 4 2 ∷ [])
        ∷ unit_in 1 2 0 (Statement 3 (prints (codes "ZD"))) ∷ setting 2 5 one_more ∷ [])
        steps output e column

-- `CALL R; R: PROC; ON ZERODIVIDE PUT LIST('ZD'); CALL S; END R;` with X = DIVIDE(1, 0, 31) in S: the unit
-- of R is that of the newest activation that has one, though S stands in M
abbrev pub NewestUnit : Type 0
NewestUnit =
    Prints
    (main_with [] (calls_block 2 1 ∷ [])
    ∷ inner_of 1 3 0 None [] (listed (Statement 4 (On condition.ZeroDivide 2) ∷ calls_block 6 3 ∷ []))
    ∷ unit_in 2 4 1 (Statement 5 (prints (codes "ZD"))) ∷ setting 3 8 divided ∷ [])
    10 (codes "ZD                                   0 ") Ended 40

-- `DCL I FIXED BIN(3), N FIXED BIN(31); DO I = 1 TO 7; N = N + 1; END; OUT: PUT LIST(N, I);`: 8 does not fit;
-- and with `ON FOFL GOTO OUT;` after the DECLARE
abbrev pub CounterOverflows : Type 0
CounterOverflows =
    fails 16 (Error error.FixedOverflow (codes "M") 3) × fails 15 OutOfSteps
    × Prints (main_with variables (Statement 3 (On condition.FixedOverflow 1) ∷ counts 5 6 8)
    ∷ unit_in 1 3 0 (Statement 4 (Goto 1 8)) ∷ []) 20
    (codes "   7 " ++ codes "                   " ++ codes "   7 ") Ended 30
  where
    variables : List Description
    variables = FixedBinary 3 ∷ FixedBinary 31 ∷ []

    counts : (first second third : ℕ) → List TypedStatement
    counts first second third =
        Statement first (Iterate (from_number 3 1 (ToBy (number 7) None))
        (listed (Statement second (Assign (slot 0 1) (with_two Add (held_in 0 1) (number 1))) ∷ [])))
        ∷ Statement third (Put false (shown (held_in 0 1) ∷ shown (held_in 0 0) ∷ [])) ∷ []

    fails : (steps : ℕ) → Ending → Type 0
    fails steps e = Prints (main_with variables (counts 3 4 6) ∷ []) steps [] e 1

-- `DCL A AREA(8), K CHAR(8) BASED, P PTR; ON AREA unit; ALLOCATE K IN(A) SET(P);`: a repeated ALLOCATE is
-- a step
abbrev pub AllocateIsRepeated : Type 0
AllocateIsRepeated =
    repeated Null 100 [] 1 × repeated (prints (codes "A")) 7 (codes "A ") 3
    × repeated (prints (codes "A")) 8 (codes "A                       A ") 27
  where
    repeated : (unit : Form) (steps : ℕ) → List ℕ → (column : ℕ) → Type 0
    repeated unit steps output column =
        Prints
        (main_with (Area 8 ∷ Pointer ∷ [])
        (Statement 3 (On condition.Area 1) ∷ Statement 5 (allocates 1 (Character 8)) ∷ [])
        ∷ unit_in 1 3 0 (Statement 4 unit) ∷ []) steps output OutOfSteps column

-- `DCL A AREA(64), P(5) PTR, K CHAR(8) BASED, I FIXED BIN(15), B AREA(32); DO I = 1 TO 4; ALLOCATE K IN(A)
-- SET(P(I)); END; ON AREA PUT LIST('AREA'); FREE P(1) -> K; FREE P(2) -> K; B = A; FREE P(3) -> K;
-- FREE P(4) -> K; ALLOCATE K IN(A) SET(P(1)); ALLOCATE K IN(A) SET(P(2)); B = A; PUT LIST('OK');`: what
-- exceeds the target is the source's extent
abbrev pub ExtentExceeds : Type 0
ExtentExceeds =
    Prints
    (main_with (with_pointers ++ Area 32 ∷ [])
    (allocates_blocks 4 [] ∷ Statement 6 (On condition.Area 1) ∷ frees 8 1 ∷ frees 9 2 ∷ copies 10
    ∷ frees 11 3 ∷ frees 12 4 ∷ Statement 13 (allocates_block (number 1))
    ∷ Statement 14 (allocates_block (number 2)) ∷ copies 15 ∷ Statement 16 (prints (codes "OK")) ∷ [])
    ∷ unit_in 1 6 0 (Statement 7 (prints (codes "AREA"))) ∷ [])
    40 (codes "AREA                    OK ") Ended 28
  where
    frees : (statement n : ℕ) → TypedStatement
    frees statement n =
        Statement statement (Free (FreesBased (Held (pointer_of (number n))) (Character 8) ∷ []))

    copies : (statement : ℕ) → TypedStatement
    copies statement = Statement statement (AssignArea (slot 0 3) area)

-- `ON AREA PUT LIST('A'); SIGNAL AREA; PUT LIST('B');`: SIGNAL repeats nothing
abbrev pub SignalGoesOn : Type 0
SignalGoesOn =
    Prints
    (main_with []
    (Statement 2 (On condition.Area 1) ∷ Statement 4 (Signal condition.Area)
    ∷ Statement 5 (prints (codes "B")) ∷ [])
    ∷ unit_in 1 2 0 (Statement 3 (prints (codes "A"))) ∷ [])
    6 (codes "A                       B ") Ended 27

-- `DCL C AREA(16) CTL, K CHAR(8) BASED, P PTR; ALLOCATE C; ON AREA unit; ALLOCATE K IN(C) SET(P);
-- ALLOCATE K IN(C) SET(P); PUT LIST(ALLOCATION(C));`: C is evaluated anew. With `ALLOCATE C;` there is room
-- in a new one, and with `FREE C;` there is none
abbrev pub AreaIsEvaluatedAnew : Type 0
AreaIsEvaluatedAnew =
    gives (Allocate (AllocatesControlled 0 ∷ [])) (codes "   2 ") Ended 6
    × gives (Free (FreesControlled 0 ∷ [])) [] (Error error.NoGeneration (codes "M") 7) 1
  where
    allocated : (statement : ℕ) → TypedStatement
    allocated statement =
        Statement statement (Allocate (AllocatesInArea (Whole (NewestOf 0)) (of (Character 8)) 0 (slot 0 0)
        (ByOperations []) ∷ []))

    gives : (unit : Form) → List ℕ → Ending → (column : ℕ) → Type 0
    gives unit output e column =
        whole_run (record {
          units =
              unit_of (codes "M") nothing_given (OwnVariable Controlled (of (Area 16)) ∷ [])
              (main_with (Pointer ∷ [])
              (Statement 3 (Allocate (AllocatesControlled 0 ∷ [])) ∷ Statement 4 (On condition.Area 1)
              ∷ allocated 6 ∷ allocated 7 ∷ Statement 8 (prints_number (Generations 0)) ∷ [])
              ∷ unit_in 1 4 0 (Statement 5 unit) ∷ []) ∷ [];
          main = 0;
          greatest = 63;
        }) 10
        ≡ Some (record { output = output; ending = e; column = column })

-- `DCL X FIXED BIN(15); DO; L: X = X + 1; IF X < 3 THEN BEGIN; ON FOFL GOTO L; SIGNAL FOFL; END; END;
-- PUT LIST(X);` prints 3: the label of a group around the block is reached
abbrev pub GroupAroundIsReached : Type 0
GroupAroundIsReached =
    Prints
    (main_with (FixedBinary 15 ∷ [])
    (Statement 3 (Group (listed (Statement 4 (adds 1) ∷ Statement 5 (If (is_less 3)
    (Statement 6 (begins 1 6 (Statement 7 (On condition.FixedOverflow 2) ∷ signals 9 ∷ []))) NoElse) ∷ [])))
    ∷ Statement 12 (prints_number (held_in 0 0)) ∷ [])
    ∷ unit_in 2 7 1 (Statement 8 (Goto 2 4)) ∷ []) 30 (codes "   3 ") Ended 6

-- in M `ON FOFL GOTO L; CALL N; PUT LIST('A'); L: PUT LIST('B');`, and `SIGNAL FOFL;` in N: the unit of M
-- runs on top of N, and its GOTO leaves both
abbrev pub GotoLeavesUnits : Type 0
GotoLeavesUnits =
    whole_run (record {
      units =
          unit_of (codes "M") nothing_given (EntryPoint (codes "N") nothing_given ∷ [])
          (main_with []
          (Statement 2 (On condition.FixedOverflow 1) ∷ Statement 4 (Call (OfEntry 0) NoArgument)
          ∷ Statement 5 (prints (codes "A")) ∷ Statement 6 (prints (codes "B")) ∷ [])
          ∷ unit_in 1 2 0 (Statement 3 (Goto 1 6)) ∷ [])
          ∷ unit_of (codes "N") nothing_given [] (main_with [] (signals 2 ∷ []) ∷ []) ∷ [];
      main = 0;
      greatest = 63;
    }) 8
    ≡ Some (record { output = codes "B "; ending = Ended; column = 3 })
