use Rattle.std.proofs.Common.{◌≡◌, ◌<◌, ◌^◌, take}
use Rattle.pli_base.specs.Digits.{value_in}
use Rattle.pli_base.proofs.character.decimal_value.Given as goal

abbrev pub invariant-loop-digit : goal.invariant-loop-digit
invariant-loop-digit l = record { value : l.value ≡ value_in 10 (take l.digit-index l.digits); below : l.value < 10 ^ l.digit-index }
