use Rattle.pli_members.specs.Members.{deleted}
use Rattle.pli_members.specs.Refusals.{refusal_of_delete}
use Rattle.pli_bench.specs.answers.Obeying.{edit_answer}
use Rattle.pli_bench.proofs.CommandsObeyed.{edits}
use Rattle.pli_bench.proofs.bench.Bench.delete.Goals as goal

pub returns-clause-answered : goal.returns-clause-answered
returns-clause-answered g c = (
  edit_answer c.as_edit-edited.result,
  edits (λ s. refusal_of_delete s c.args.name) (λ s. deleted s c.args.name) c.args.self.now c.self.inside.members c.self.inside.ledger c.self.inside.standing c.self.inside.steps c.self.view_is c.delete.new.self _
      c.delete.result c.as_edit-edited.result c.as_edit-edited.ensures c.answer_edit.ensures.standing c.delete.ensures.refusal c.delete.ensures.ok c.delete.ensures.err,
  c.answer_edit.ensures.written,
)
