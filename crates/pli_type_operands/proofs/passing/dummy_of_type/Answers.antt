use Rattle.pli_type_operands.proofs.TypeViews.{at_one, string_view}
use Rattle.pli_type_operands.proofs.passing.dummy_of_type.Goals as goal

pub returns-in-AnyString : goal.returns-in-AnyString
returns-in-AnyString c =
    rw (string_view c.args.taken.now c.in-AnyString.form c.in-AnyString.is)
    (at_one _ c.string_dummy.result c.args.greatest c.string_dummy.ensures)
