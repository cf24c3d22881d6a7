use Rattle.pli_type.specs.views.ValueView.{value_view}
use Rattle.pli_type_expression.proofs.BindLemmas.{exits}
use Rattle.pli_type_parts.specs.Around.{surroundings_of}
use Rattle.pli_type_parts.specs.views.AroundView.{around_view}
use Rattle.pli_type_tree.specs.views.TypedView.{form_view}
use Rattle.pli_type_simple.proofs.CallLemmas.{return_fails, return_goes_on}
use Rattle.pli_type_simple.proofs.jumps.returned.Goals as goal

pub returns-in_err-value-in-Some : goal.returns-in_err-value-in-Some
returns-in_err-value-in-Some c =
    exits _ c.from_residual.result c.in_err-value-in-Some.field-0.0 _ c.from_residual.ensures.1
    (return_fails c.args.naming.now (surroundings_of (around_view c.args.around.now)) c.args.at c.in-Some.expression
    c.args.value.now c.in_err-value-in-Some.field-0.0 c.in-Some.is c.in_err-value-in-Some.ensures)

pub returns-in_ok-value-in-Some : goal.returns-in_ok-value-in-Some
returns-in_ok-value-in-Some c =
    return_goes_on form_view c.returned_value.result c.args.naming.now (surroundings_of (around_view c.args.around.now))
    c.args.at c.in-Some.expression c.args.value.now (value_view c.in_ok-value-in-Some.value) c.greatest.result
    c.first_token-first.result c.area_here-area.result c.in-Some.is c.in_ok-value-in-Some.ensures c.greatest.ensures
    c.first_token-first.ensures c.area_here-area.ensures c.returned_value.ensures
