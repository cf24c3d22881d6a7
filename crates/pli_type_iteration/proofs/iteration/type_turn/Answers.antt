use Rattle.pli_type_operands.proofs.TypeViews.{at_one, string_view}
use Rattle.pli_type_iteration.proofs.iteration.type_turn.Goals as goal

pub returns-in-AnyString : goal.returns-in-AnyString
returns-in-AnyString c =
    let turned = at_one _ c.string_turn.result c.args.greatest c.string_turn.ensures in
    rw (string_view c.args.taken.now c.in-AnyString.form c.in-AnyString.is)
    (at_one _ c.string_turn.result c.args.area turned)
