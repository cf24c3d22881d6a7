use Rattle.std.proofs.Common.{subst}
use Rattle.std.proofs.lemmas.Result.{err_from_is_err_and}
use Rattle.pli_type_tree.specs.views.TypedView.{unit_view}
use Rattle.pli_deck.specs.answers.Outcomes.{Compiles}
use Rattle.pli_deck.proofs.TypedCompiled.{code_refused, deck_decides}
use Rattle.pli_deck.proofs.passes.compile_typed.Goals as goal

pub returns : goal.returns
returns c =
    subst (λ r. Compiles c.with_bytes.result r) (deck_decides (unit_view c.args.unit.now) _ c.in_ok-code.ensures.0 c.in_ok-code.ensures.1) c.with_bytes.ensures

pub returns-in_err-code : goal.returns-in_err-code
returns-in_err-code c =
    let p = err_from_is_err_and c.from_residual.result c.from_residual.ensures.1 in
    code_refused (unit_view c.args.unit.now) c.from_residual.result p.0 _ p.1 p.2 c.in_err-code.ensures
