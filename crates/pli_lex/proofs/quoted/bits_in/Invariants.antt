use Rattle.std.proofs.Common.{◌≡◌, true, take}
use Rattle.pli_lex.specs.Tokens.{are_digits, bits_in}
use Rattle.pli_lex.proofs.quoted.bits_in.Given as goal

abbrev pub invariant-loop-digit : goal.invariant-loop-digit
invariant-loop-digit l = record {
  bits : l.bits.items ≡ bits_in l.width (take l.digit-index l.digits);
  digits : are_digits l.width (take l.digit-index l.digits) ≡ true;
}
