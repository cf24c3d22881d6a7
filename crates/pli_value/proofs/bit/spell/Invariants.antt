use Rattle.std.proofs.Common.{◌≡◌, false, get_or, take}
use Rattle.pli_value.specs.Conversions.{bit_character}
use Rattle.pli_value.proofs.BitLoopLemmas.{tabulated}
use Rattle.pli_value.proofs.bit.spell.Given as goal

abbrev pub invariant-loop-place : goal.invariant-loop-place
invariant-loop-place l = take l.place l.buffer ≡ tabulated (λ k. bit_character (get_or l.bits k false)) l.place
