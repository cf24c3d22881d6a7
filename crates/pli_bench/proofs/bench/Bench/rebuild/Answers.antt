use Rattle.std.specs.Prelude.{is_some}
use Rattle.std.proofs.Common.{Option, subst, sym}
use Rattle.pli_meaning.specs.Scratch.{Made, Diagnosed}
use Rattle.pli_ledger.specs.answers.Built.{IsOfMembers}
use Rattle.pli_ledger.specs.declared.stored.StoredModule.{StoredModule}
use Rattle.pli_commands.specs.Exchanges.{exchange}
use Rattle.pli_bench.specs.Session.{Builds, build_answer}
use Rattle.pli_commands.specs.AnswerLines.{no_memory}
use Rattle.pli_bench.proofs.CommandsObeyed.{builds, builds_not, state}
use Rattle.pli_bench.proofs.bench.Bench.rebuild.Goals as goal

pub returns-in-Ok-Module-clause-answered : goal.returns-in-Ok-Module-clause-answered
returns-in-Ok-Module-clause-answered g c =
    let given : IsOfMembers c.self.inside.members.entries c.in-Ok-Module.«module».bytes.items = rw c.in-Ok-Module.field-0-is at c.in-Ok-Module.ensures.answer in (
      build_answer (Made given.made),
      builds c.args.self.now c.self.inside.members c.self.inside.ledger c.build.new.self _ c.self.inside.steps c.self.view_is (Made given.made) (sym given.is) c.in-Ok-Module.ensures.after,
      c.put_parts.ensures.written,
    )

pub returns-in-Ok-Diagnostics-clause-answered : goal.returns-in-Ok-Diagnostics-clause-answered
returns-in-Ok-Diagnostics-clause-answered g c =
    let given = rw c.in-Ok-Diagnostics.field-0-is at c.in-Ok-Diagnostics.ensures.answer in
    let answer = build_answer (Diagnosed c.in-Ok-Diagnostics.text.bytes.items) in (
      answer,
      subst (λ (o : Option StoredModule). Builds (exchange c.args.self.now answer (state c.self.inside.members c.build.new.self (is_some o) c.self.inside.steps))) (sym c.take-standing.ensures.after)
          (builds c.args.self.now c.self.inside.members c.self.inside.ledger c.build.new.self _ c.self.inside.steps c.self.view_is (Diagnosed c.in-Ok-Diagnostics.text.bytes.items) (sym given) c.in-Ok-Diagnostics.ensures.after),
      rw (← c.as_bytes.ensures.value) c.put_parts-in-Ok-Diagnostics.ensures.written,
    )

pub returns-in-Err-clause-answered : goal.returns-in-Err-clause-answered
returns-in-Err-clause-answered g c = (
  no_memory,
  subst (λ (o : Option StoredModule). Builds (exchange c.args.self.now no_memory (state c.self.inside.members c.build.new.self (is_some o) c.self.inside.steps))) (sym c.take-standing.ensures.after)
      (builds_not c.args.self.now c.self.inside.members c.self.inside.ledger c.build.new.self _ c.self.inside.steps c.self.view_is c.in-Err.ensures.refused),
  c.put_parts-in-Err.ensures.written,
)
