use Rattle.std.proofs.Common.{◌≤◌, length, ◌∙◌, arith}
use Rattle.pli_value.specs.Short.{short_view}
use Rattle.pli_value.proofs.ShortLemmas.{counted, cut_shown}
use Rattle.pli_value.proofs.short.fit.Goals as goal

pub returns : goal.returns
returns c =
    let within : c.args.size ≤ length (short_view c.args.bits) = omega (arith, c.if-bits-size.false, counted c.args.bits.count c.args.bits.number) in
    c.part.ensures ∙ cut_shown (short_view c.args.bits) c.args.size within
