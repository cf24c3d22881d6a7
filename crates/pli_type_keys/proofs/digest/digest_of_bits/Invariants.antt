use Rattle.std.proofs.Common.{◌≡◌, drop}
use Rattle.pli_type_keys.specs.answers.Digests.{digest_of_bits}
use Rattle.pli_type_keys.proofs.digest.digest_of_bits.Given as goal

abbrev pub invariant-loop-place : goal.invariant-loop-place
invariant-loop-place l = digest_of_bits l.whole (drop l.place l.bits) ≡ digest_of_bits 2 l.bits
