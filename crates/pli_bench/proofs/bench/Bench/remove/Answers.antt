use Rattle.pli_members.specs.Members.{without_lines}
use Rattle.pli_members.specs.Refusals.{refusal_of_remove}
use Rattle.pli_bench.specs.answers.Obeying.{edit_answer}
use Rattle.pli_bench.proofs.CommandsObeyed.{edits}
use Rattle.pli_bench.proofs.bench.Bench.remove.Goals as goal

pub returns-clause-answered : goal.returns-clause-answered
returns-clause-answered g c = (
  edit_answer c.as_edit.result,
  edits (λ s. refusal_of_remove s c.args.name c.args.first c.args.last) (λ s. without_lines s c.args.name c.args.first c.args.last) c.args.self.now c.self.inside.members c.self.inside.ledger c.self.inside.standing c.self.inside.steps c.self.view_is c.remove_lines-removed.new.self _
      c.remove_lines-removed.result c.as_edit.result c.as_edit.ensures c.answer_edit.ensures.standing c.remove_lines-removed.ensures.refusal c.remove_lines-removed.ensures.ok c.remove_lines-removed.ensures.err,
  c.answer_edit.ensures.written,
)
