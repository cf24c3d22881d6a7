use Rattle.std.proofs.Common.{sym, subst}
use Rattle.pli_meaning.specs.MemberParts.{coded_from}
use Rattle.pli_deck.specs.answers.Outcomes.{Compiles}
use Rattle.pli_deck.proofs.passes.compile_resolved.Goals as goal

pub returns : goal.returns
returns c =
    subst (λ r. Compiles c.compile_typed-compiled.result (coded_from r)) (sym c.in_ok-unit.ensures) c.compile_typed-compiled.ensures
