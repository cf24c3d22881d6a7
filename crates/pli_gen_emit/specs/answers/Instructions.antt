-- Instructions before what they name is numbered.
use Rattle.std.specs.Prelude.{ℕ, suc, nat_eq, Bool, true, ◌&&◌, List, [], ◌∷◌, if◌then◌else◌}
use Rattle.pli_program.specs.Program.{Instruction}
use Rattle.pli_program.specs.declared.instruction.Instruction.TheVariants.{Step}
use Rattle.pli_program.specs.declared.instruction.Instruction.TheVariants as op
use Rattle.pli_code.specs.CodeFields.{is_byte, is_short}

-- where the first step of a statement stands in code; another place if there is none
abbrev pub step_place : List Instruction → (at number other : ℕ) → ℕ
step_place [] p n other = other
step_place (Step s ∷ is) p n other = if nat_eq s n then p else step_place is (suc p) n other
step_place (i ∷ is) p n other = step_place is (suc p) n other

-- an instruction whose GOTO leads to the place of its label
abbrev pub retargeted : (place : ℕ → ℕ) → Instruction → Instruction
retargeted place (op.Goto outward label) = op.Goto outward (place label)
retargeted place i = i

-- the numbers of an instruction, but for targets, are within their fields
abbrev pub instruction_fits : Instruction → Bool
instruction_fits (op.Goto outward label) = is_byte outward
instruction_fits (op.Call block arguments) = is_short block && is_byte arguments
instruction_fits (op.CallExternal global arguments) = is_short global && is_byte arguments
instruction_fits (op.Begin block) = is_short block
instruction_fits (op.Return outward) = is_byte outward
instruction_fits (op.ReturnValue outward) = is_byte outward
instruction_fits (op.Local outward slot) = is_byte outward && is_short slot
instruction_fits (op.Global number) = is_short number
instruction_fits (op.AllocateControlled global) = is_short global
instruction_fits (op.FreeControlled global) = is_short global
instruction_fits (op.CountGenerations global) = is_short global
instruction_fits (op.On c block) = is_short block
instruction_fits (op.SubscriptIn dimension) = is_byte dimension
instruction_fits (op.SetTemporary number) = is_short number
instruction_fits (op.TakeTemporary number) = is_short number
instruction_fits other = true
