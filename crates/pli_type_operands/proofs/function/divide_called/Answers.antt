use Rattle.std.proofs.Common.{◌≡◌, Some, map, option_map, take, IfOk, sym, ap, ◌∙◌, subst}
use Rattle.std.specs.Prelude.{option_and_then}
use Rattle.std.proofs.lemmas.List.{take-map}
use Rattle.pli_type_rules.specs.FunctionCalls.{values_in}
use Rattle.pli_type.specs.views.ValueView.{value_view}
use Rattle.pli_type_operands.specs.Quotients.{precision_written, quotient_of}
use Rattle.pli_type_operands.specs.views.TypingView.{argument_view}
use Rattle.pli_type_operands.proofs.CallLemmas.{no_quotient_without, quotient_by_values}
use Rattle.pli_type_operands.proofs.function.divide_called.Goals as goal

pub returns-in_default : goal.returns-in_default
returns-in_default c =
    no_quotient_without c.args.greatest (map argument_view c.args.arguments.items)
    (ap (λ gs. precision_written (map argument_view gs)) (sym c.as_slice.ensures.value)
    ∙ sym c.precision_written.ensures ∙ c.in_default.is)

pub returns-in-Some-2 : goal.returns-in-Some-2
returns-in-Some-2 c =
    let given = map argument_view c.args.arguments.items in
    let written = c.in-Some.written in
    let third : precision_written given ≡ Some written =
    ap (λ gs. precision_written (map argument_view gs)) (sym c.as_slice.ensures.value)
    ∙ sym c.precision_written.ensures ∙ c.in-Some.is in
    let values : values_in (take 2 given) ≡ Some (map value_view c.in-Some-2.values.items) =
    ap values_in (take-map argument_view 2 c.args.arguments.items)
    ∙ ap (λ gs. values_in (map argument_view gs)) (sym c.truncate.ensures.items)
    ∙ sym c.in_ok-values.ensures ∙ ap (option_map (λ v. map value_view v.items)) c.in-Some-2.is in
    subst (λ t. IfOk c.quotient_of.result (λ given. option_map value_view given ≡ t))
    (sym (quotient_by_values c.args.greatest given written third
    ∙ ap (option_and_then (λ vs. quotient_of c.args.greatest vs written)) values))
    c.quotient_of.ensures
