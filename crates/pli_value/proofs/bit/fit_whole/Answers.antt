use Rattle.std.proofs.Common.{false, sym, ◌∙◌, arith}
use Rattle.pli_value.proofs.BitLoopLemmas.{itself_tabulated, fitted_is_tabulated}
use Rattle.pli_value.proofs.bit.fit_whole.Goals as goal

pub returns-then-count-size : goal.returns-then-count-size
returns-then-count-size c =
    itself_tabulated c.args.bits c.args.size (omega (arith, c.length-count.ensures.value, c.if-count-size.true))
    ∙ sym (fitted_is_tabulated false c.args.size c.args.bits)
