use Rattle.std.proofs.Common.{sym, ap, ◌∙◌}
use Rattle.pli_map.specs.views.ParameterView.{type_seen}
use Rattle.pli_type_rules.specs.FunctionCalls.{bound_in}
use Rattle.pli_type_tree.specs.views.TypedView.{reference_view}
use Rattle.pli_type_operands.proofs.function.bound_in.Goals as goal

pub returns-in-Stated : goal.returns-in-Stated
returns-in-Stated c =
    let r = reference_view c.args.reference in
    c.bound_described.ensures r ∙ ap (λ t. bound_in c.args.which c.args.number r (type_seen t)) (sym c.in-Stated.is)
