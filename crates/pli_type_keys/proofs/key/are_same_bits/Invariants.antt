use Rattle.std.proofs.Common.{◌≡◌, drop, length}
use Rattle.std.specs.Bool.{beq}
use Rattle.std.specs.Cmp.Lexicographic.{pointwise}
use Rattle.pli_type_keys.proofs.key.are_same_bits.Given as goal

abbrev pub invariant-loop-place : goal.invariant-loop-place
invariant-loop-place l = (pointwise beq (drop l.place l.left) (drop l.place l.right) ≡ pointwise beq l.left l.right) × (length l.left ≡ length l.right)
