use Rattle.std.proofs.Common.{◌-◌, length, arith}
use Rattle.std.proofs.lemmas.List.{take-replicate}
use Rattle.pli_print.proofs.PrintLemmas.{digits_put}
use Rattle.pli_print.proofs.printing.put_digits.Goals as goal

-- the blanks are a first part of those of a line
pub returns-clause-printed : goal.returns-clause-printed
returns-clause-printed c =
    let width = c.args.width in
    let digits = c.args.digits.now in
    digits_put _ c.args.output.now.items _ _ _ _ digits c.args.column width c.requires.line.0 c.requires.held (take-replicate (width - length digits) 120 32 (omega (arith, c.requires.line)))
    c.in_ok-extend_from_slice.ensures.items c.in_ok-extend_from_slice-2.ensures.items c.put_end.ensures.printed
