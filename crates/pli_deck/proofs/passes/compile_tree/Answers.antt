use Rattle.std.proofs.Common.{sym, subst}
use Rattle.pli_deck.specs.answers.Outcomes.{Compiles}
use Rattle.pli_deck.proofs.TypedCompiled.{types_decide}
use Rattle.pli_deck.proofs.passes.compile_tree.Goals as goal

pub returns : goal.returns
returns c =
    subst (λ r. Compiles c.compile_resolved-compiled.result r) (sym (types_decide _ _ (c.in_ok-resolved.ensures.0) (c.in_ok-resolved.ensures.1))) c.compile_resolved-compiled.ensures
