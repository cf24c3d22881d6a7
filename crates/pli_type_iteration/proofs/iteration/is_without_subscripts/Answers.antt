use Rattle.std.proofs.Common.{ap, sym, ◌∙◌}
use Rattle.pli_type_rules.specs.StatementTyping.{without_subscripts}
use Rattle.pli_type_tree.specs.views.TypedView.{reference_view}
use Rattle.pli_type_iteration.proofs.IterationLemmas.{bare}
use Rattle.pli_type_iteration.proofs.iteration.is_without_subscripts.Goals as goal

pub returns-in-Part : goal.returns-in-Part
returns-in-Part c =
    let part = c.in-Part in
    c.is_empty.ensures ∙ bare part.root part.offset part.description part.subscripts
    ∙ ap (λ r. without_subscripts (reference_view r)) (sym part.is)
