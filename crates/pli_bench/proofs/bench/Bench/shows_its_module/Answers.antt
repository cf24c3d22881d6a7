use Rattle.std.proofs.Common.{sym, ap, subst}
use Rattle.pli_bench.specs.Session.{State}
use Rattle.pli_ledger.specs.answers.Built.{IsStanding}
use Rattle.pli_bench.proofs.DumpsObeyed.{shows}
use Rattle.pli_bench.proofs.bench.Bench.shows_its_module.Goals as goal

pub returns : goal.returns
returns c =
    shows c.args.self.now c.self.inside.standing (ap (λ s. s.stands) (sym c.self.view_is))
    (subst (λ (s : State). IsStanding s.store.entries c.self.inside.standing) c.self.view_is c.self.invariant.0)
