use Rattle.pli_members.specs.Members.{added}
use Rattle.pli_members.specs.Refusals.{refusal_of_add}
use Rattle.pli_bench.specs.answers.Obeying.{edit_answer}
use Rattle.pli_bench.proofs.CommandsObeyed.{edits_in_memory}
use Rattle.pli_bench.proofs.bench.Bench.add.Goals as goal

pub returns-clause-answered : goal.returns-clause-answered
returns-clause-answered g c = (
  edit_answer c.add-edited.result,
  edits_in_memory (λ s. refusal_of_add s c.args.name) (λ s. added s c.args.name c.args.kind) c.args.self.now c.self.inside.members c.self.inside.ledger c.self.inside.standing c.self.inside.steps c.self.view_is c.add-edited.new.self _
      c.add-edited.result c.answer_edit.ensures.standing c.add-edited.ensures.refusal c.add-edited.ensures.ok c.add-edited.ensures.err,
  c.answer_edit.ensures.written,
)
