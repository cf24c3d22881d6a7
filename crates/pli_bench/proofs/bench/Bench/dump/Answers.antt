use Rattle.std.specs.Prelude.{is_some, ◌++◌}
use Rattle.std.proofs.Common.{sym, ap, subst, ◌∙◌}
use Rattle.pli_commands.specs.Dumps.{hex_from}
use Rattle.pli_commands.specs.Exchanges.{exchange}
use Rattle.pli_bench.specs.Session.{Dumps}
use Rattle.pli_commands.specs.AnswerLines.{not_built, okay}
use Rattle.pli_bench.proofs.CommandsObeyed.{standing_built}
use Rattle.pli_bench.proofs.DumpsObeyed.{dumps_not, dumps}
use Rattle.pli_bench.proofs.bench.Bench.dump.Goals as goal

pub returns-in_default-clause-answered : goal.returns-in_default-clause-answered
returns-in_default-clause-answered g c =
    (not_built, dumps_not c.args.self.now (ap (λ s. s.stands) (sym c.self.view_is) ∙ ap is_some c.in_default.is), c.put_parts.ensures.written)

pub returns-clause-answered : goal.returns-clause-answered
returns-clause-answered g c =
    let at = standing_built c.args.self.now c.self.inside.members c.self.inside.ledger c.self.inside.standing c.self.inside.steps c.in-Some.«module» c.self.view_is c.in-Some.is c.self.invariant.0 in
    let s = c.args.self.now in (
      hex_from 0 c.as_slice.result.now ++ okay,
      subst (λ bs. Dumps s.stands (exchange s (hex_from 0 bs ++ okay) s)) (sym c.as_slice.ensures.value) (dumps s c.in-Some.«module».bytes.items at.stands at.of),
      c.put_dump.ensures.written,
    )
