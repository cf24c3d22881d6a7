-- Worked examples of areas: blocks, pointers and offsets by instructions, each with what its run gives within
-- so many instructions.
use Rattle.std.specs.Prelude.{◌≡◌, ℕ, Some, List, [], ◌∷◌, codes}
use Rattle.pli_run.specs.declared.ending.Ending.TheVariants.{Ended, Error, MachineFault}
use Rattle.pli_run.specs.declared.ending.RunError.{RunError}
use Rattle.pli_run.specs.declared.ending.RunError.TheVariants as error
use Rattle.pli_map.specs.Description.{Description, FixedBinary, Pointer, Offset, Area}
use Rattle.pli_operation.specs.declared.operation.Operation.TheVariants.{ToCharacters}
use Rattle.pli_value.specs.Value.{Value, Located}
use Rattle.pli_value.specs.declared.locator.Locator.TheVariants as locator
use Rattle.pli_program.specs.Program.{Instruction}
use Rattle.pli_program.specs.declared.instruction.Instruction.TheVariants.{Line, Return, Global, Based, Load}
use Rattle.pli_program.specs.declared.instruction.Instruction.TheVariants.{Store, Copy, Operate, AddressOf}
use Rattle.pli_program.specs.declared.instruction.Instruction.TheVariants.{ToPointer, ToOffset, Put}
use Rattle.pli_program.specs.declared.instruction.Instruction.TheVariants.{AllocateInArea, FreeBased}
use Rattle.pli_program.specs.declared.instruction.Instruction.TheVariants.{AssignArea, EmptyArea}
use Rattle.pli_program.specs.Program.{GlobalCode, OwnVariable, Program}
use Rattle.pli_program.specs.declared.kind.VariableKind.TheVariants.{Static}
use Rattle.pli_machine_step.specs.Runs.{Outcome}
use Rattle.pli_machine_step.specs.examples.MachineExamples.{gives, after, number, five, unit, made_as_five}

-- a variable of a unit's own, which begins with these values
abbrev pub own : Description → List Value → GlobalCode
own d vs = OwnVariable Static (record { description = d; initial = vs })

-- a program with two areas of so many bytes, a pointer and an offset that begin as null, and a variable that
-- begins with 5, in this order
abbrev pub with_areas : (bytes : ℕ) → List Instruction → Program
with_areas bytes instructions = record {
  units =
      unit (codes "M")
      (own (Area bytes) [] ∷ own (Area bytes) [] ∷ own Pointer (Located locator.Null ∷ [])
      ∷ own Offset (Located (locator.Offset 0) ∷ []) ∷ OwnVariable Static five ∷ []) instructions ∷ [];
  main = 0;
  greatest = 31;
}

-- what its run gives, with one step and at most 40 instructions
abbrev pub AreasGive : (bytes : ℕ) → List Instruction → Outcome → Type 0
AreasGive bytes instructions o = after (with_areas bytes instructions) 1 40 ≡ Some o

-- an error at statement 2, to which the program comes first
abbrev pub FailBy : (bytes : ℕ) → RunError → List Instruction → Type 0
FailBy bytes e instructions = AreasGive bytes (Line 2 ∷ instructions) (gives [] (Error e (codes "M") 2) 1)

-- no instruction for what lies there
abbrev pub Fault : List Instruction → Type 0
Fault instructions = AreasGive 64 instructions (gives [] MachineFault 1)

-- a block of the first area is made, which begins with 5, and the pointer leads to it; and what comes then
abbrev pub with_block : List Instruction → List Instruction
with_block more = Global 2 ∷ Global 0 ∷ AllocateInArea made_as_five 0 ∷ Store ∷ more

-- what the newest operand leads to is printed at the end
abbrev pub printed_there : List Instruction
printed_there = Based (FixedBinary 15) ∷ Load ∷ Operate (ToCharacters 1) ∷ Put ∷ Return 0 ∷ []

-- the block is there by the pointer
abbrev pub BlockPrints : Type 0
BlockPrints =
    AreasGive 64 (with_block (Global 2 ∷ Load ∷ printed_there)) (gives (codes "5 ") Ended 3)

-- the pointer as an offset of the first area, stored; the area is assigned to the second one, into which the
-- offset leads then
abbrev pub OffsetPrints : Type 0
OffsetPrints =
    AreasGive 64
    (with_block (Global 3 ∷ Global 2 ∷ Load ∷ Global 0 ∷ ToOffset ∷ Store ∷ Global 1 ∷ Global 0 ∷ AssignArea
    ∷ Global 3 ∷ Load ∷ Global 1 ∷ ToPointer ∷ printed_there)) (gives (codes "5 ") Ended 3)

-- a block that was freed is gone, and so is one of an area that was emptied, or that has got the blocks of
-- another one
abbrev pub BlocksEnd : Type 0
BlocksEnd =
    FailBy 64 error.DeadLocator
    (with_block (Global 2 ∷ Load ∷ FreeBased (FixedBinary 15) ∷ Global 2 ∷ Load ∷ printed_there))
    × FailBy 64 error.DeadLocator
    (with_block (Global 0 ∷ EmptyArea ∷ Global 2 ∷ Load ∷ printed_there))
    × FailBy 64 error.DeadLocator
    (with_block (Global 0 ∷ Global 1 ∷ AssignArea ∷ Global 2 ∷ Load ∷ printed_there))

-- 16 bytes have room for one such block with its header
abbrev pub AreaIsFull : Type 0
AreaIsFull =
    AreasGive 16 (with_block (Return 0 ∷ [])) (gives [] Ended 1)
    × FailBy 16 error.Area (with_block (with_block (Return 0 ∷ [])))

-- a variable lies in no area; and no block does in another one
abbrev pub NotInArea : Type 0
NotInArea =
    FailBy 64 error.OutsideArea (Global 4 ∷ AddressOf ∷ Global 0 ∷ ToOffset ∷ [])
    × FailBy 64 error.OutsideArea (with_block (Global 2 ∷ Load ∷ Global 1 ∷ ToOffset ∷ []))

-- areas are not copied as aggregates are; a number is no offset, nor is a pointer; a block lies in an area,
-- and is none
abbrev pub AreasFault : Type 0
AreasFault =
    Fault (Global 0 ∷ Global 1 ∷ Copy ∷ [])
    × Fault (number 7 ∷ Global 0 ∷ ToPointer ∷ [])
    × Fault (Global 2 ∷ Load ∷ Global 0 ∷ ToPointer ∷ [])
    × Fault (Global 4 ∷ AllocateInArea made_as_five 0 ∷ [])
    × Fault (Global 0 ∷ AllocateInArea (record { description = Area 8; initial = [] }) 0 ∷ [])

-- from a block that has ended nothing is copied, nor to it, also where what the other place has is of another
-- description
abbrev pub CopiesFail : Type 0
CopiesFail =
    FailBy 64 error.DeadLocator
    (with_block (Global 2 ∷ Global 2 ∷ Load ∷ Based (FixedBinary 15) ∷ Global 0 ∷ EmptyArea ∷ Copy ∷ []))
    × FailBy 64 error.DeadLocator
    (with_block (Global 2 ∷ Load ∷ Based (FixedBinary 15) ∷ Global 0 ∷ EmptyArea ∷ Global 2 ∷ Copy ∷ []))
