use Rattle.std.proofs.Common.{◌≡◌, Some, map, ◌∙◌, sym, ap}
use Rattle.pli_type_operands.specs.Bounded.{bound_given, dimension_given}
use Rattle.pli_type_operands.specs.views.TypingView.{argument_view}
use Rattle.pli_type_operands.proofs.CallLemmas.{none_bounded, bound_by_given}
use Rattle.pli_type_operands.proofs.function.bound_called.Goals as goal

pub returns-in_default : goal.returns-in_default
returns-in_default c = λ greatest.
    none_bounded greatest c.args.function c.requires (map argument_view c.args.arguments.items)
    (ap (λ gs. dimension_given (map argument_view gs)) (sym c.as_slice.ensures.value) ∙ sym c.dimension_given.ensures ∙ c.in_default.is)

pub returns : goal.returns
returns c = λ greatest.
    let given = map argument_view c.args.arguments.items in
    let second : dimension_given given ≡ Some c.in-Some.written =
    ap (λ gs. dimension_given (map argument_view gs)) (sym c.as_slice.ensures.value) ∙ sym c.dimension_given.ensures ∙ c.in-Some.is in
    c.bound_given.ensures
    ∙ ap (λ which. bound_given which given c.in-Some.written) c.which_bound.ensures
    ∙ bound_by_given greatest c.args.function c.requires given c.in-Some.written second
