-- The numbers of what may be wrong with the bytes of a deck or a module (own).
use Rattle.std.specs.Prelude.{ℕ}
use Rattle.pli_code.specs.declared.fault.DeckFault.{DeckFault}
use Rattle.pli_code.specs.declared.fault.DeckFault.TheVariants as faults

-- the first four and the fifth are met in reading from the front; then the others are looked for in this
-- order
abbrev pub fault_number : DeckFault → ℕ
fault_number faults.BadMagic = 1
fault_number faults.BadVersion = 2
fault_number faults.Truncated = 3
fault_number faults.Trailing = 4
fault_number faults.OutOfRange = 5
fault_number faults.BadJump = 6
fault_number faults.BadNumber = 7
fault_number faults.OverLimit = 8
