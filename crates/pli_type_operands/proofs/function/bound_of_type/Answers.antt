use Rattle.std.proofs.Common.{sym, ap, ◌∙◌}
use Rattle.pli_type_rules.specs.FunctionCalls.{bound_in}
use Rattle.pli_type_tree.specs.views.TypedView.{reference_view}
use Rattle.pli_type_operands.proofs.TypeViews.{stated_view}
use Rattle.pli_type_operands.proofs.function.bound_of_type.Goals as goal

pub returns-in-Stated : goal.returns-in-Stated
returns-in-Stated c =
    let r = reference_view c.args.reference in
    c.bound_described.ensures r
    ∙ ap (bound_in c.args.which c.args.number r) (sym (stated_view c.args.taken.now c.in-Stated.description c.in-Stated.is))
