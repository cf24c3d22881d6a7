-- Worked examples: small programs, each with what its run gives after so many instructions.
use Rattle.std.specs.Prelude.{◌≡◌, ℕ, zero, suc, true, false, pos, Option, Some, None, List, [], ◌∷◌, ◌++◌}
use Rattle.std.specs.Prelude.{codes, length, map}
use Rattle.pli_base.specs.Name.{Name}
use Rattle.pli_run.specs.declared.ending.Ending.{Ending}
use Rattle.pli_run.specs.declared.ending.Ending.TheVariants.{Ended, OutOfSteps, Error, MachineFault}
use Rattle.pli_run.specs.declared.ending.RunError.TheVariants.{TooManyActivations, SubscriptRange}
use Rattle.pli_run.specs.declared.ending.RunError.TheVariants.{StringRange, NoGeneration, NullLocator}
use Rattle.pli_run.specs.declared.ending.RunError.TheVariants.{DeadLocator, DescriptionMismatch}
use Rattle.pli_run.specs.declared.ending.RunError.TheVariants.{FixedOverflow}
use Rattle.pli_map.specs.Description.{Description, FixedBinary, Array, Pointer}
use Rattle.pli_operation.specs.declared.operation.Operation.{Operation}
use Rattle.pli_operation.specs.declared.operation.Operation.TheVariants.{ToCharacters, Add, Compare}
use Rattle.pli_operation.specs.declared.operation.Operation.TheVariants.{Substring}
use Rattle.pli_operation.specs.declared.operation.Relation.TheVariants.{Equal, AtMost, Less}
use Rattle.pli_value.specs.Value.{Value, Number, Characters, Bits, Located}
use Rattle.pli_value.specs.declared.locator.Locator.TheVariants.{Null}
use Rattle.pli_map.specs.Values.{first_values}
use Rattle.pli_map.specs.Variables.{Variable}
use Rattle.pli_program.specs.Program.{Instruction}
use Rattle.pli_program.specs.declared.instruction.Instruction.TheVariants.{Step, Line, Jump, JumpUnless, Goto}
use Rattle.pli_program.specs.declared.instruction.Instruction.TheVariants.{Call, CallExternal, Begin, Raise}
use Rattle.pli_program.specs.declared.instruction.Instruction.TheVariants.{Return, ReturnValue, Local, Global}
use Rattle.pli_program.specs.declared.instruction.Instruction.TheVariants.{Field, Subscript, Constant}
use Rattle.pli_program.specs.declared.instruction.Instruction.TheVariants.{MakeDummy, Load, Store, Operate}
use Rattle.pli_program.specs.declared.instruction.Instruction.TheVariants.{Put, Skip, AllocateControlled}
use Rattle.pli_program.specs.declared.instruction.Instruction.TheVariants.{FreeControlled, CountGenerations}
use Rattle.pli_program.specs.declared.instruction.Instruction.TheVariants.{Based, AddressOf, AllocateBased}
use Rattle.pli_program.specs.declared.instruction.Instruction.TheVariants.{FreeBased}
use Rattle.pli_program.specs.Program.{BlockKind, Procedure, BeginBlock, Block, GlobalCode, OwnVariable}
use Rattle.pli_program.specs.Program.{ExternalVariable, EntryPoint, UnitCode, Program}
use Rattle.pli_program.specs.Templates.{Template, dummy}
use Rattle.pli_program.specs.declared.kind.VariableKind.TheVariants.{Static, Controlled}
use Rattle.pli_machine_step.specs.Machine.{State, At, Over, iterate}
use Rattle.pli_machine_step.specs.Runs.{Outcome, outcome_of, names_of, start, ProgramRunsTo}

-- what is printed, how it ends, and the next column
abbrev pub gives : List ℕ → Ending → ℕ → Outcome
gives output ending column = record { output = output; ending = ending; column = column }

-- what a run has given, if it is over, where the units have these names
abbrev pub outcome_at : List Name → State → Option Outcome
outcome_at names (At here frames w left) = None
outcome_at names (Over ending w) = Some (outcome_of names ending w)

-- what a run with so many steps has given after so many instructions, if it is over
abbrev pub after : Program → (steps instructions : ℕ) → Option Outcome
after p steps instructions = outcome_at (names_of p) (iterate p instructions (start p steps))

-- programs of one unit, whose block 0 is its procedure

-- a block without parameters, variables and temporaries
abbrev pub block : BlockKind → Option ℕ → (entry statement : ℕ) → Block
block kind parent entry statement = record {
  kind = kind;
  parent = parent;
  parameters = 0;
  variables = [];
  temporaries = 0;
  entry = entry;
  statement = statement;
}

-- a program of one unit, whose block 0 is its procedure
abbrev pub program : List Block → List Instruction → Program
program inner instructions = record {
  units =
      record {
        name = codes "M";
        globals = [];
        blocks = block Procedure None 0 1 ∷ inner;
        instructions = map Some instructions;
      } ∷ [];
  main = 0;
  greatest = 31;
}

-- the smallest program
abbrev pub smallest : Program
smallest = program [] (Return 0 ∷ [])

-- its one step is the activation of its procedure, so with none it stops
abbrev pub SmallestStops : Type 0
SmallestStops = ProgramRunsTo smallest 0 (gives [] OutOfSteps 1)

-- with one step it ends
abbrev pub SmallestEnds : Type 0
SmallestEnds = ProgramRunsTo smallest 1 (gives [] Ended 1)

-- a constant of characters
abbrev pub text : List ℕ → Instruction
text characters = Constant (Characters characters)

-- a constant number
abbrev pub number : ℕ → Instruction
number n = Constant (Number (pos n))

-- a procedure calls one within it, which leaves by a GOTO to a statement of the first
abbrev pub left_by_goto : Program
left_by_goto =
    program (block Procedure (Some 0) 9 5 ∷ [])
    (Step 2 ∷ Call 1 0 ∷ text (codes "NO") ∷ Put ∷ Return 0 ∷ Step 3 ∷ text (codes "YES") ∷ Put ∷ Return 0
    ∷ Step 6 ∷ Goto 1 5 ∷ Return 0 ∷ [])

-- five steps: two activations and three statements; a blank follows what is printed
abbrev pub GotoLeaves : Type 0
GotoLeaves = after left_by_goto 5 8 ≡ Some (gives (codes "YES ") Ended 5)

-- with four, the statement that prints is not begun
abbrev pub GotoStops : Type 0
GotoStops = after left_by_goto 4 5 ≡ Some (gives [] OutOfSteps 1)

-- with two, the call is no more than looked at
abbrev pub CallStops : Type 0
CallStops = after left_by_goto 2 2 ≡ Some (gives [] OutOfSteps 1)

-- a jump to itself
abbrev pub turning : Program
turning = program [] (Jump 0 ∷ [])

-- 64 jumps with no step between are none too many
abbrev pub JumpsGoOn : Type 0
JumpsGoOn = after turning 1 64 ≡ None

-- the 65th is a fault
abbrev pub JumpsFault : Type 0
JumpsFault = after turning 1 65 ≡ Some (gives [] MachineFault 1)

-- each instruction leads to the next one
abbrev pub chain : (ℕ → Instruction) → (count from : ℕ) → List Instruction
chain lead zero from = Return 0 ∷ []
chain lead (suc count) from = lead (suc from) ∷ chain lead count (suc from)

-- 64 GOTOs are none too many, though they lead forward
abbrev pub GotosEnd : Type 0
GotosEnd = after (program [] (chain (Goto 0) 64 0)) 1 65 ≡ Some (gives [] Ended 1)

-- the 65th is a fault
abbrev pub GotosFault : Type 0
GotosFault = after (program [] (chain (Goto 0) 65 0)) 1 65 ≡ Some (gives [] MachineFault 1)

-- jumps forward do not count
abbrev pub JumpsEnd : Type 0
JumpsEnd = after (program [] (chain Jump 65 0)) 1 66 ≡ Some (gives [] Ended 1)

-- each turn takes a step
abbrev pub stepping : Program
stepping = program [] (Step 2 ∷ Jump 0 ∷ [])

-- it goes on until no step is left
abbrev pub TurnsStop : Type 0
TurnsStop = after stepping 101 201 ≡ Some (gives [] OutOfSteps 1)

-- a procedure that calls itself
abbrev pub recursive : Program
recursive = program [] (Call 0 0 ∷ [])

-- the call of the activation that would be one too many is an error, also where no step is left for it
abbrev pub TooMany : Type 0
TooMany = after recursive 1000 1000 ≡ Some (gives [] (Error TooManyActivations (codes "M") 1) 1)

-- with a step less the run ends before
abbrev pub ManyStop : Type 0
ManyStop = after recursive 999 999 ≡ Some (gives [] OutOfSteps 1)

-- a block of this kind is entered by this instruction
abbrev pub entering : BlockKind → Instruction → Program
entering kind instruction =
    program (block kind (Some 0) 2 3 ∷ []) (instruction ∷ Return 0 ∷ Return 0 ∷ [])

-- a BEGIN block by BEGIN, which is no step
abbrev pub BeginEnds : Type 0
BeginEnds = after (entering BeginBlock (Begin 1)) 1 3 ≡ Some (gives [] Ended 1)

-- a procedure not by BEGIN
abbrev pub BeginFaults : Type 0
BeginFaults = after (entering Procedure (Begin 1)) 1 1 ≡ Some (gives [] MachineFault 1)

-- nor one that has a parameter by BEGIN
abbrev pub ParameterFaults : Type 0
ParameterFaults =
    after
    (program (record (block BeginBlock (Some 0) 2 3) { parameters = 1 } ∷ [])
    (Begin 1 ∷ Return 0 ∷ Return 0 ∷ [])) 1 1 ≡ Some (gives [] MachineFault 1)

-- a BEGIN block not by a call
abbrev pub CallFaults : Type 0
CallFaults = after (entering BeginBlock (Call 1 0)) 1 1 ≡ Some (gives [] MachineFault 1)

-- a procedure stores 7 by its parameter, in a variable of its caller, which prints it
abbrev pub shared : Program
shared = record {
  units =
      record {
        name = codes "M";
        globals = [];
        blocks =
            record (block Procedure None 0 1) {
              variables = record { description = FixedBinary 15; initial = Number (pos 0) ∷ [] } ∷ [];
            }
            ∷ record (block Procedure (Some 0) 7 4) { parameters = 1 } ∷ [];
        instructions =
            map Some
            (Local 0 0 ∷ Call 1 1 ∷ Local 0 0 ∷ Load ∷ Operate (ToCharacters 1) ∷ Put ∷ Return 0 ∷ Local 0 0
            ∷ number 7 ∷ Store ∷ Return 0 ∷ []);
      } ∷ [];
  main = 0;
  greatest = 31;
}

-- the argument is the variable itself
abbrev pub ArgumentIsShared : Type 0
ArgumentIsShared = after shared 2 11 ≡ Some (gives (codes "7 ") Ended 3)

-- how many generations live at a state
abbrev pub lives_at : State → ℕ
lives_at (At here frames w left) = length w.storage
lives_at (Over ending w) = length w.storage

-- how many live after so many instructions of a run with two steps
abbrev pub lives : Program → (instructions : ℕ) → ℕ
lives p instructions = lives_at (iterate p instructions (start p 2))

-- a dummy argument of the number 7, and what comes then
abbrev pub with_dummy : List Instruction → List Instruction
with_dummy more = number 7 ∷ MakeDummy (dummy (FixedBinary 15)) ∷ more

-- what a dummy argument holds is printed
abbrev pub dummy_loaded : Program
dummy_loaded = program [] (with_dummy (Load ∷ Operate (ToCharacters 1) ∷ Put ∷ Return 0 ∷ []))

-- it is there to be looked at, and then it has ended
abbrev pub DummyEnds : Type 0
DummyEnds =
    (after dummy_loaded 1 6 ≡ Some (gives (codes "7 ") Ended 3)) × (lives dummy_loaded 2 ≡ 1)
    × (lives dummy_loaded 3 ≡ 0)

-- a dummy argument is given to a procedure, which prints what it holds
abbrev pub dummy_given : Program
dummy_given =
    program (record (block Procedure (Some 0) 4 7) { parameters = 1 } ∷ [])
    (with_dummy (Call 1 1 ∷ Return 0 ∷ Local 0 0 ∷ Load ∷ Operate (ToCharacters 1) ∷ Put ∷ Return 0 ∷ []))

-- it lives as long as the procedure's activation
abbrev pub DummyIsGiven : Type 0
DummyIsGiven =
    (after dummy_given 2 9 ≡ Some (gives (codes "7 ") Ended 3)) × (lives dummy_given 7 ≡ 1)
    × (lives dummy_given 8 ≡ 0)

-- what leads to a dummy argument by another way leads nowhere then: its address, and a part of it
abbrev pub DummyIsDead : Type 0
DummyIsDead =
    (after (program [] (Line 2 ∷ with_dummy (AddressOf ∷ Based (FixedBinary 15) ∷ []))) 1 5
    ≡ Some (gives [] (Error DeadLocator (codes "M") 2) 1))
    × (after (program [] (Line 2 ∷ with_dummy (Field 0 (FixedBinary 15) ∷ Load ∷ []))) 1 5
    ≡ Some (gives [] (Error DeadLocator (codes "M") 2) 1))

-- a function's value is there for its caller
abbrev pub FunctionGives : Type 0
FunctionGives =
    after
    (program (block Procedure (Some 0) 3 2 ∷ [])
    (Call 1 0 ∷ Put ∷ Return 0 ∷ text (codes "YES") ∷ ReturnValue 0 ∷ [])) 2 5
    ≡ Some (gives (codes "YES ") Ended 5)

-- where none waits for it, it is a fault
abbrev pub ValueFaults : Type 0
ValueFaults =
    after (program [] (text (codes "YES") ∷ ReturnValue 0 ∷ [])) 1 2
    ≡ Some (gives [] MachineFault 1)

-- a BEGIN block that enters itself: no step is taken, and still there is an end
abbrev pub BeginsEnd : Type 0
BeginsEnd =
    after (program (block BeginBlock None 0 2 ∷ []) (Begin 1 ∷ [])) 1 1000
    ≡ Some (gives [] (Error TooManyActivations (codes "M") 2) 1)

-- the code's end is a fault
abbrev pub EndFaults : Type 0
EndFaults = after (program [] (Line 7 ∷ [])) 1 2 ≡ Some (gives [] MachineFault 1)

-- a program of one procedure with one variable
abbrev pub with_variable : Variable → List Instruction → Program
with_variable v instructions = record {
  units =
      record {
        name = codes "M";
        globals = [];
        blocks = record (block Procedure None 0 1) { variables = v ∷ [] } ∷ [];
        instructions = map Some instructions;
      } ∷ [];
  main = 0;
  greatest = 31;
}

-- a variable counts from 1 to 3, on a line for each number; as the test fails the fourth time it goes on
-- after the loop
abbrev pub counting : Program
counting =
    with_variable (record { description = FixedBinary 15; initial = Number (pos 1) ∷ [] })
    (Step 2 ∷ Local 0 0 ∷ Load ∷ number 3 ∷ Operate (Compare AtMost) ∷ JumpUnless 19 ∷ Step 3 ∷ Local 0 0
    ∷ Load ∷ Operate (ToCharacters 1) ∷ Put ∷ Skip ∷ Local 0 0 ∷ Local 0 0 ∷ Load ∷ number 1 ∷ Operate Add
    ∷ Store ∷ Jump 1 ∷ Return 0 ∷ [])

-- five steps and what is printed
abbrev pub LoopEnds : Type 0
LoopEnds =
    after counting 5 61
    ≡ Some (gives (codes "1 " ++ 10 ∷ codes "2 " ++ 10 ∷ codes "3 " ++ 10 ∷ []) Ended 1)

-- an array (3) of FIXED BINARY(15)
abbrev pub row : Variable
row =
    let d = Array (record { low = pos 1; high = pos 3 } ∷ []) (FixedBinary 15) in
    record { description = d; initial = first_values d }

-- a program that prints an element of it
abbrev pub element : (subscript : ℕ) → Program
element subscript =
    with_variable row
    (Line 2 ∷ Local 0 0 ∷ Field 0 (FixedBinary 15) ∷ number subscript ∷ Subscript (pos 1) (pos 3) 2 ∷ Load
    ∷ Operate (ToCharacters 1) ∷ Put ∷ Return 0 ∷ [])

-- element 3
abbrev pub ElementPrints : Type 0
ElementPrints = after (element 3) 1 9 ≡ Some (gives (codes "0 ") Ended 3)

-- there is no element 4
abbrev pub ElementFails : Type 0
ElementFails = after (element 4) 1 5 ≡ Some (gives [] (Error SubscriptRange (codes "M") 2) 1)

-- a program that leads its place so many bytes on, where nothing asks what stands there
abbrev pub leading : (offset : ℕ) → Program
leading offset = with_variable row (Line 2 ∷ Local 0 0 ∷ Field offset (FixedBinary 15) ∷ Return 0 ∷ [])

-- 1,000,000, and no more
abbrev pub LeadingFaults : Type 0
LeadingFaults =
    (after (leading 1000000) 1 4 ≡ Some (gives [] Ended 1))
    × (after (leading 1000001) 1 3 ≡ Some (gives [] MachineFault 1))

-- an operation on constants, printed
abbrev pub printing : List Value → Operation → Program
printing operands operation = program [] (constants operands)
  where
    constants : List Value → List Instruction
    constants [] = Operate operation ∷ Put ∷ Return 0 ∷ []
    constants (v ∷ vs) = Constant v ∷ constants vs

-- SUBSTR('ABC', 2, count), printed
abbrev pub part : (count : ℕ) → Program
part count = printing (Characters (codes "ABC") ∷ Number (pos 2) ∷ Number (pos count) ∷ []) Substring

-- a part that the string has
abbrev pub PartPrints : Type 0
PartPrints = after (part 2) 1 6 ≡ Some (gives (codes "BC ") Ended 4)

-- one that it has not
abbrev pub PartFails : Type 0
PartFails = after (part 3) 1 4 ≡ Some (gives [] (Error StringRange (codes "M") 1) 1)

-- a comparison gives a bit, which is printed as a constant; the shorter string is extended with blanks
abbrev pub ComparisonPrints : Type 0
ComparisonPrints =
    after (printing (Characters (codes "A") ∷ Characters (codes "A B") ∷ []) (Compare Less)) 1 5
    ≡ Some (gives (codes "'1'B ") Ended 6)

-- whether 2147483647 + 1 is 2147483648, printed
abbrev pub far_sum : List Instruction
far_sum =
    number 2147483647 ∷ number 1 ∷ Operate Add ∷ number 2147483648 ∷ Operate (Compare Equal) ∷ Put
    ∷ Return 0 ∷ []

-- the same where numbers have this greatest precision
abbrev pub summing : (greatest : ℕ) → Program
summing greatest = record (program [] far_sum) { greatest = greatest }

-- with 31 binary digits the sum is an error, with 63 it is a number
abbrev pub SumsAreAsWide : Type 0
SumsAreAsWide =
    (after (summing 31) 1 3 ≡ Some (gives [] (Error FixedOverflow (codes "M") 1) 1))
    × (after (summing 63) 1 7 ≡ Some (gives (codes "'1'B ") Ended 6))

-- bits are printed as a constant
abbrev pub BitsPrint : Type 0
BitsPrint =
    after (program [] (Constant (Bits (true ∷ false ∷ true ∷ [])) ∷ Put ∷ Return 0 ∷ [])) 1 3
    ≡ Some (gives (codes "'101'B ") Ended 8)

-- a line is ended between two items
abbrev pub SkipEndsLine : Type 0
SkipEndsLine =
    after (program [] (text (codes "A") ∷ Put ∷ Skip ∷ text (codes "B") ∷ Put ∷ Return 0 ∷ [])) 1 6
    ≡ Some (gives (codes "A " ++ 10 ∷ codes "B ") Ended 3)

-- a variable that begins with 5
abbrev pub five : Variable
five = record { description = FixedBinary 15; initial = Number (pos 5) ∷ [] }

-- two activations of a procedure each add 1 to it, as it is made once
abbrev pub twice : Program
twice = record {
  units =
      record {
        name = codes "M";
        globals = OwnVariable Static five ∷ [];
        blocks = block Procedure None 0 1 ∷ block Procedure (Some 0) 7 4 ∷ [];
        instructions =
            map Some
            (Call 1 0 ∷ Call 1 0 ∷ Global 0 ∷ Load ∷ Operate (ToCharacters 1) ∷ Put ∷ Return 0 ∷ Global 0
            ∷ Global 0 ∷ Load ∷ number 1 ∷ Operate Add ∷ Store ∷ Return 0 ∷ []);
      } ∷ [];
  main = 0;
  greatest = 31;
}

-- so the procedure prints 7
abbrev pub StaticIsShared : Type 0
StaticIsShared = after twice 3 21 ≡ Some (gives (codes "7 ") Ended 3)

-- a unit with one procedure
abbrev pub unit : (name : List ℕ) → List GlobalCode → List Instruction → UnitCode
unit name globals instructions = record {
  name = name;
  globals = globals;
  blocks = block Procedure None 0 1 ∷ [];
  instructions = map Some instructions;
}

-- a program of two units: M calls the procedure of the unit of this number, and prints X; the other one is N
abbrev pub units : (entry : ℕ) → List Instruction → Program
units entry other = record {
  units =
      unit (codes "M") (EntryPoint entry ∷ ExternalVariable 0 Static five ∷ [])
      (CallExternal 0 0 ∷ Global 1 ∷ Load ∷ Operate (ToCharacters 1) ∷ Put ∷ Return 0 ∷ [])
      ∷ unit (codes "N") (ExternalVariable 0 Static five ∷ []) other ∷ [];
  main = 0;
  greatest = 31;
}

-- N stores 7 in X, which both have
abbrev pub storing : List Instruction
storing = Global 0 ∷ number 7 ∷ Store ∷ Return 0 ∷ []

-- M prints it
abbrev pub UnitsShare : Type 0
UnitsShare = after (units 1 storing) 2 10 ≡ Some (gives (codes "7 ") Ended 3)

-- the call is a step
abbrev pub UnitsStop : Type 0
UnitsStop = after (units 1 storing) 1 1 ≡ Some (gives [] OutOfSteps 1)

-- an error in the other one names its unit
abbrev pub UnitFails : Type 0
UnitFails =
    after (units 1 (Raise SubscriptRange ∷ [])) 2 2 ≡ Some (gives [] (Error SubscriptRange (codes "N") 1) 1)

-- where there is no such unit it is a fault
abbrev pub NoUnitFaults : Type 0
NoUnitFaults = after (units 2 storing) 2 1 ≡ Some (gives [] MachineFault 1)

-- a program whose CONTROLLED variable begins with 5
abbrev pub controlled : List Instruction → Program
controlled instructions = record {
  units = unit (codes "M") (OwnVariable Controlled five ∷ []) instructions ∷ [];
  main = 0;
  greatest = 31;
}

-- how many generations it has, and what it holds, each on a line, and what comes then
abbrev pub with_count : List Instruction → List Instruction
with_count more =
    CountGenerations 0 ∷ Operate (ToCharacters 1) ∷ Put ∷ Skip ∷ Global 0 ∷ Load ∷ Operate (ToCharacters 1)
    ∷ Put ∷ Skip ∷ more

-- the older of two generations holds 7, the newer one what the variable begins with; where the newer one is
-- freed the older one is meant again
abbrev pub GenerationsPrint : Type 0
GenerationsPrint =
    after
    (controlled (AllocateControlled 0 ∷ Global 0 ∷ number 7 ∷ Store ∷ AllocateControlled 0
    ∷ with_count (FreeControlled 0 ∷ with_count (Return 0 ∷ [])))) 1 25
    ≡ Some (gives (codes "2 " ++ 10 ∷ codes "5 " ++ 10 ∷ codes "1 " ++ 10 ∷ codes "7 " ++ 10 ∷ []) Ended 1)

-- where there is none it is an error to mean or to free one
abbrev pub NoneIsError : Type 0
NoneIsError =
    (after (controlled (Line 2 ∷ Global 0 ∷ [])) 1 2
    ≡ Some (gives [] (Error NoGeneration (codes "M") 2) 1))
    × (after (controlled (Line 2 ∷ FreeControlled 0 ∷ [])) 1 2
    ≡ Some (gives [] (Error NoGeneration (codes "M") 2) 1))

-- a variable of another kind, and a global that is not there, are none to allocate
abbrev pub OthersFault : Type 0
OthersFault =
    (after (units 1 (AllocateControlled 0 ∷ [])) 2 2 ≡ Some (gives [] MachineFault 1))
    × (after (controlled (AllocateControlled 1 ∷ [])) 1 1 ≡ Some (gives [] MachineFault 1))

-- a program with a pointer that begins as null, and a variable that begins with 5
abbrev pub pointing : List Instruction → Program
pointing instructions = record {
  units =
      unit (codes "M")
      (OwnVariable Static (record { description = Pointer; initial = Located Null ∷ [] })
      ∷ OwnVariable Static five ∷ []) instructions ∷ [];
  main = 0;
  greatest = 31;
}

-- what the pointer leads to, where that is of this description, and what comes then
abbrev pub at_pointer : Description → List Instruction → List Instruction
at_pointer d more = Global 0 ∷ Load ∷ Based d ∷ more

-- what a variable that begins with 5 is made from
abbrev pub made_as_five : Template
made_as_five = record {
  description = FixedBinary 15;
  initial = record { offset = 0; value = Number (pos 5) } ∷ [];
}

-- a generation is made, and the pointer leads to it; and what comes then
abbrev pub with_generation : List Instruction → List Instruction
with_generation more = Global 0 ∷ AllocateBased made_as_five ∷ Store ∷ more

-- what it leads to is printed at the end
abbrev pub printing_pointed : List Instruction
printing_pointed =
    at_pointer (FixedBinary 15) (Load ∷ Operate (ToCharacters 1) ∷ Put ∷ Return 0 ∷ [])

-- the generation begins with 5, and then it holds 7
abbrev pub BasedPrints : Type 0
BasedPrints =
    (after (pointing (with_generation printing_pointed)) 1 10 ≡ Some (gives (codes "5 ") Ended 3))
    × (after
    (pointing (with_generation (at_pointer (FixedBinary 15) (number 7 ∷ Store ∷ printing_pointed)))) 1 15
    ≡ Some (gives (codes "7 ") Ended 3))

-- the pointer to a variable leads to what that holds
abbrev pub AddressPrints : Type 0
AddressPrints =
    after (pointing (Global 0 ∷ Global 1 ∷ AddressOf ∷ Store ∷ printing_pointed)) 1 11
    ≡ Some (gives (codes "5 ") Ended 3)

-- null leads nowhere; nor does a pointer to what was freed; what has another description is not meant
abbrev pub LocatorsFail : Type 0
LocatorsFail =
    (after (pointing (Line 2 ∷ at_pointer (FixedBinary 15) [])) 1 4
    ≡ Some (gives [] (Error NullLocator (codes "M") 2) 1))
    × (after
    (pointing (with_generation (Global 0 ∷ Load ∷ FreeBased (FixedBinary 15) ∷ Line 2
    ∷ at_pointer (FixedBinary 15) []))) 1 10 ≡ Some (gives [] (Error DeadLocator (codes "M") 2) 1))
    × (after (pointing (with_generation (Line 2 ∷ at_pointer (FixedBinary 31) []))) 1 7
    ≡ Some (gives [] (Error DescriptionMismatch (codes "M") 2) 1))

-- what ALLOCATE of a BASED variable has not made is not freed so
abbrev pub AddressIsNotFreed : Type 0
AddressIsNotFreed =
    after (pointing (Line 2 ∷ Global 1 ∷ AddressOf ∷ FreeBased (FixedBinary 15) ∷ [])) 1 4
    ≡ Some (gives [] (Error DescriptionMismatch (codes "M") 2) 1)

-- a number leads nowhere, and has no address
abbrev pub NumbersFault : Type 0
NumbersFault =
    (after (pointing (number 7 ∷ Based (FixedBinary 15) ∷ [])) 1 2 ≡ Some (gives [] MachineFault 1))
    × (after (pointing (number 7 ∷ AddressOf ∷ [])) 1 2 ≡ Some (gives [] MachineFault 1))
