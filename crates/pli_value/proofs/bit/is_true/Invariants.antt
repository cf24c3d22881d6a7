use Rattle.std.proofs.Common.{◌≡◌, drop}
use Rattle.pli_value.specs.Strings.{is_true}
use Rattle.pli_value.proofs.bit.is_true.Given as goal

abbrev pub invariant-loop-place : goal.invariant-loop-place
invariant-loop-place l = is_true l.bits ≡ is_true (drop l.place l.bits)
