use Rattle.pli_members.specs.Members.{with_line}
use Rattle.pli_members.specs.Refusals.{refusal_of_insert}
use Rattle.pli_bench.specs.answers.Obeying.{edit_answer}
use Rattle.pli_bench.proofs.CommandsObeyed.{edits_in_memory}
use Rattle.pli_bench.proofs.bench.Bench.insert.Goals as goal

pub returns-clause-answered : goal.returns-clause-answered
returns-clause-answered g c = (
  edit_answer c.insert_line-edited.result,
  edits_in_memory (λ s. refusal_of_insert s c.args.name c.args.after c.args.text.now) (λ s. with_line s c.args.name c.args.after c.args.text.now) c.args.self.now c.self.inside.members c.self.inside.ledger c.self.inside.standing c.self.inside.steps c.self.view_is c.insert_line-edited.new.self _
      c.insert_line-edited.result c.answer_edit.ensures.standing c.insert_line-edited.ensures.refusal c.insert_line-edited.ensures.ok c.insert_line-edited.ensures.err,
  c.answer_edit.ensures.written,
)
