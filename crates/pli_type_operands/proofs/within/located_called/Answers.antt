use Rattle.std.proofs.Common.{◌≡◌, Some, map, option_map, take, sym, ap, ◌∙◌}
use Rattle.std.specs.Prelude.{option_and_then}
use Rattle.std.proofs.lemmas.List.{take-map}
use Rattle.std.proofs.lemmas.Result.{IfOk-weaker}
use Rattle.pli_type_rules.specs.FunctionCalls.{values_in}
use Rattle.pli_type.specs.views.ValueView.{value_view}
use Rattle.pli_type_operands.specs.Within.{area_given, located_of}
use Rattle.pli_type_operands.specs.views.TypingView.{argument_view}
use Rattle.pli_type_operands.proofs.CallLemmas.{none_located, located_by_values}
use Rattle.pli_type_operands.proofs.within.located_called.Goals as goal

pub returns-in_default : goal.returns-in_default
returns-in_default c = λ greatest.
    none_located greatest c.args.function (map argument_view c.args.arguments.items)
    (ap (λ gs. area_given (map argument_view gs)) (sym c.as_slice.ensures.value) ∙ sym c.area_given.ensures ∙ c.in_default.is)

pub returns-in-Some-2 : goal.returns-in-Some-2
returns-in-Some-2 c =
    let given = map argument_view c.args.arguments.items in
    let area = c.in-Some.area in
    let second : area_given given ≡ Some area =
    ap (λ gs. area_given (map argument_view gs)) (sym c.as_slice.ensures.value) ∙ sym c.area_given.ensures ∙ c.in-Some.is in
    let values : values_in (take 1 given) ≡ Some (map value_view c.in-Some-2.values.items) =
    ap values_in (take-map argument_view 1 c.args.arguments.items)
    ∙ ap (λ gs. values_in (map argument_view gs)) (sym c.truncate.ensures.items)
    ∙ sym c.in_ok-values.ensures ∙ ap (option_map (λ v. map value_view v.items)) c.in-Some-2.is in
    IfOk-weaker c.located_of.result _ _
    (λ made e greatest. e ∙ sym (located_by_values greatest c.args.function given area second ∙ ap (option_and_then (λ vs. located_of c.args.function vs area)) values))
    c.located_of.ensures
