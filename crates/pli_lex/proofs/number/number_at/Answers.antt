use Rattle.pli_base.specs.Name.{is_digit}
use Rattle.pli_lex.proofs.LongestRuns.{run_within, run_passes}
use Rattle.pli_lex.proofs.number.number_at.Goals as goal

pub split_at-requires : goal.split_at-requires
split_at-requires c = rw c.number_width-width.ensures (run_within is_digit c.args.text.now)

pub decimal-requires-clause-form : goal.decimal-requires-clause-form
decimal-requires-clause-form c = rw (c.split_at.ensures.front, c.number_width-width.ensures) (run_passes is_digit c.args.text.now)
