use Rattle.std.proofs.Common.{◌≡◌, take}
use Rattle.pli_type_operands.proofs.constants.bits_of.Given as goal

-- the bits so far
abbrev pub invariant-loop-bit : goal.invariant-loop-bit
invariant-loop-bit l = l.bits ≡ take l.bit-index l.written
