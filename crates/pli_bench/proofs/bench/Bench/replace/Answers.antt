use Rattle.pli_members.specs.Members.{with_line_replaced}
use Rattle.pli_members.specs.Refusals.{refusal_of_replace}
use Rattle.pli_bench.specs.answers.Obeying.{edit_answer}
use Rattle.pli_bench.proofs.CommandsObeyed.{edits_in_memory}
use Rattle.pli_bench.proofs.bench.Bench.replace.Goals as goal

pub returns-clause-answered : goal.returns-clause-answered
returns-clause-answered g c = (
  edit_answer c.replace_line-edited.result,
  edits_in_memory (λ s. refusal_of_replace s c.args.name c.args.number c.args.text.now) (λ s. with_line_replaced s c.args.name c.args.number c.args.text.now) c.args.self.now c.self.inside.members c.self.inside.ledger c.self.inside.standing c.self.inside.steps c.self.view_is c.replace_line-edited.new.self _
      c.replace_line-edited.result c.answer_edit.ensures.standing c.replace_line-edited.ensures.refusal c.replace_line-edited.ensures.ok c.replace_line-edited.ensures.err,
  c.answer_edit.ensures.written,
)
