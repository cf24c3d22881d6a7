use Rattle.std.proofs.Common.{◌≡◌, false, get_or}
use Rattle.pli_value.specs.Conversions.{bit_character}
use Rattle.pli_value.proofs.BitLoopLemmas.{tabulated}
use Rattle.pli_value.proofs.bit.bits_to_char.Given as goal

abbrev pub invariant-loop-place : goal.invariant-loop-place
invariant-loop-place l = l.characters.items ≡ tabulated (λ k. bit_character (get_or l.bits k false)) l.place
