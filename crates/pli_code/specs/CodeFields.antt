-- Code whose numbers are within the fields that its bytes have for them (own). An instruction in memory never
-- has a wider one; definitions speak of numbers of any size, and these tests say how large they may be.
use Rattle.std.specs.Prelude.{ℕ, nat_le, nat_lt, Bool, true, ◌&&◌, Option, Some, None}
use Rattle.pli_code.specs.Decks.{CodedBlock}
use Rattle.pli_code.specs.CodedInstruction.{Instruction}
use Rattle.pli_program.specs.declared.instruction.Instruction.TheVariants as op

-- a number in a field of one byte
abbrev pub is_byte : ℕ → Bool
is_byte n = nat_le n 255

-- a number in a field of two bytes
abbrev pub is_short : ℕ → Bool
is_short n = nat_le n 65535

-- blocks, globals, slots and temporaries are numbers of two bytes, arguments, static links and dimensions of
-- one; numbers of entries and targets are within two bytes by the limits of tables
abbrev pub instruction_fits : Instruction → Bool
instruction_fits (op.Goto outward target) = is_byte outward
instruction_fits (op.Call block arguments) = is_short block && is_byte arguments
instruction_fits (op.CallExternal global arguments) = is_short global && is_byte arguments
instruction_fits (op.Begin block) = is_short block
instruction_fits (op.Return outward) = is_byte outward
instruction_fits (op.ReturnValue outward) = is_byte outward
instruction_fits (op.Local outward slot) = is_byte outward && is_short slot
instruction_fits (op.Global number) = is_short number
instruction_fits (op.AllocateControlled global) = is_short global
instruction_fits (op.FreeControlled global) = is_short global
instruction_fits (op.CountGenerations global) = is_short global
instruction_fits (op.On c block) = is_short block
instruction_fits (op.SubscriptIn dimension) = is_byte dimension
instruction_fits (op.SetTemporary number) = is_short number
instruction_fits (op.TakeTemporary number) = is_short number
instruction_fits other = true

-- the block around another has a number of two bytes, which is not the one that stands for none
abbrev pub parent_fits : Option ℕ → Bool
parent_fits None = true
parent_fits (Some b) = nat_lt b 65535

-- the numbers of a block fit
abbrev pub block_fits : CodedBlock → Bool
block_fits b = parent_fits b.parent && (is_byte b.parameters && is_short b.temporaries)
