use Rattle.std.proofs.Common.{◌≡◌, ◌<◌, ◌^◌, ltb, true, sym, arith}
use Rattle.std.proofs.lemmas.Bool.{lt-ltb}
use Rattle.pli_lex.proofs.BitsGathered.{more_bits, more_digits, no_bits, all_bits}
use Rattle.pli_lex.proofs.quoted.bits_in.Goals as goal

pub returns-then-value-width : goal.returns-then-value-width
returns-then-value-width c =
    no_bits c.args.width c.args.digits.now c.loop-digit.digit-index c.digit_value-value.result c.requires c.loop-digit-test.true c.digit_value-value.ensures c.if-value-width.true

pub returns : goal.returns
returns c = all_bits c.args.width c.args.digits.now c.loop-digit.digit-index c.loop-digit.bits.items c.loop-digit-test.false c.loop-digit.invariant.bits c.loop-digit.invariant.digits

pub loop-digit-preserved : goal.loop-digit-preserved
loop-digit-preserved c =
    let width = c.args.width in
    let digits = c.args.digits.now in
    let i = c.loop-digit.digit-index in
    let value = c.digit_value-value.ensures in
    let small : c.digit_value-value.result < 2 ^ width = omega (arith, c.if-value-width.false) in
    let here : ltb c.digit_value-value.result (2 ^ width) ≡ true = lt-ltb _ _ small in
    record {
      bits = rw (c.in_ok-push_bits.ensures, c.loop-digit.invariant.bits, value) (sym (more_bits width digits i c.loop-digit-test.true));
      digits = more_digits width digits i c.loop-digit-test.true c.loop-digit.invariant.digits (rw (← value) here);
    }
