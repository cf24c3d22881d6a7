use Rattle.std.proofs.Common.{◌≡◌, ◌<◌, ◌^◌, take}
use Rattle.pli_base.specs.Digits.{value_in}
use Rattle.pli_lex.proofs.number.binary_value.Given as goal

abbrev pub invariant-loop-digit : goal.invariant-loop-digit
invariant-loop-digit l = record { value : l.value ≡ value_in 2 (take l.digit-index l.digits); below : l.value < 2 ^ l.digit-index }
