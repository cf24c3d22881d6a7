use Rattle.std.proofs.Common.{◌∙◌, arith}
use Rattle.pli_run.specs.Print.{characters_from}
use Rattle.pli_print.proofs.PrintLemmas.{line_put-bytes, line_put-column, all_put}
use Rattle.pli_print.proofs.printing.put_characters.Goals as goal

pub loop-from-preserved : goal.loop-from-preserved
loop-from-preserved c = record {
  within = omega arith;
  bytes =
      line_put-bytes c.loop-from.output.items _ _ _ _ c.loop-from.rest.now c.loop-from.from c.loop-from.invariant.within (omega arith)
      c.split_at.ensures.front c.split_at.ensures.back c.in_ok-extend_from_slice.ensures.items c.in_ok-push.ensures.items
      ∙ c.loop-from.invariant.bytes;
  column =
      line_put-column _ c.loop-from.rest.now c.loop-from.from c.loop-from.invariant.within (omega arith) c.split_at.ensures.back
      ∙ c.loop-from.invariant.column;
}

pub returns-clause-printed : goal.returns-clause-printed
returns-clause-printed c =
    all_put _ c.args.output.now.items c.loop-from.output.items _ _ c.loop-from.rest.now c.loop-from.from
    (characters_from c.args.column c.args.text.now) (omega arith)
    c.in_ok-extend_from_slice-2.ensures.items c.loop-from.invariant.bytes c.loop-from.invariant.column c.put_end.ensures.printed
