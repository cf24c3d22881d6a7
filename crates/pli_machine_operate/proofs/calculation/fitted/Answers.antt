use Rattle.std.proofs.Common.{Ok, ap, sym, ◌∙◌, w64, arith}
use Rattle.std.proofs.lemmas.Int.{to_z-of_z}
use Rattle.pli_machine_operate.proofs.WidthLemmas.{wide_within}
use Rattle.pli_machine_operate.proofs.calculation.fitted.Goals as goal

pub returns-then-precision-gt-WIDEST_PRECISION : goal.returns-then-precision-gt-WIDEST_PRECISION
returns-then-precision-gt-WIDEST_PRECISION c =
    ap Ok (to_z-of_z w64 c.args.number c.ranges.number)
    ∙ sym (wide_within c.args.precision c.args.number (omega (arith, c.if-precision-gt-WIDEST_PRECISION.true)) c.ranges.number)
