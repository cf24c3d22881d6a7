use Rattle.std.proofs.Common.{◌∙◌, ap, sym, map, option_map}
use Rattle.pli_base.specs.views.DeclarationView.{attribute_view, item_view}
use Rattle.pli_map.specs.views.DescriptionView.{description_view}
use Rattle.pli_declare.specs.Completed.{OfEntry, OfVariable}
use Rattle.pli_declare.specs.Faults.{parameters_in, returned_in, returned_fault, parameters_fault, parameter_of, described_scalar}
use Rattle.pli_declare.proofs.ShapeLemmas.{attributes_none, parts_none, is_entry, is_built_in, is_variable}
use Rattle.pli_declare_attributes.proofs.complete.completed_item.Goals as goal

pub parameters-requires : goal.parameters-requires
parameters-requires c =
    let i = item_view c.args.facts.now.item.now in
    let same = c.parameters_of.ensures ∙ ap (λ items. parameters_in (map attribute_view items)) c.as_slice-attributes.ensures.value in
    ap parameters_fault same ∙ (parts_none c.args.place i (attributes_none c.args.place i c.requires)).1

pub returned_type-requires : goal.returned_type-requires
returned_type-requires c =
    let i = item_view c.args.facts.now.item.now in
    let here = ap (λ items. returned_fault (returned_in (map attribute_view items))) c.as_slice-attributes.ensures.value in
    here ∙ (parts_none c.args.place i (attributes_none c.args.place i c.requires)).2

pub variable-requires : goal.variable-requires
variable-requires c =
    let i = item_view c.args.facts.now.item.now in
    (parts_none c.args.place i (attributes_none c.args.place i c.requires)).0

pub returns-in_ok-parameters : goal.returns-in_ok-parameters
returns-in_ok-parameters c =
    let facts = c.args.facts.now in
    let i = item_view facts.item.now in
    let same = c.parameters_of.ensures ∙ ap (λ items. parameters_in (map attribute_view items)) c.as_slice-attributes.ensures.value in
    ap (λ ps. OfEntry ps (option_map description_view c.returned_type.result)) (c.in_ok-parameters.ensures ∙ ap (map parameter_of) same)
    ∙ ap (OfEntry (map parameter_of (parameters_in i.attributes)))
    (c.returned_type.ensures ∙ ap (λ items. option_map described_scalar (returned_in (map attribute_view items))) c.as_slice-attributes.ensures.value)
    ∙ sym (is_entry c.args.place i facts.summary.set.0 facts.is_set (sym c.has.ensures ∙ c.if-has.true))

pub returns-then-has-2 : goal.returns-then-has-2
returns-then-has-2 c =
    let facts = c.args.facts.now in
    let i = item_view facts.item.now in
    sym (is_built_in c.args.place i facts.summary.set.0 facts.is_set (sym c.has.ensures ∙ c.if-has.false) (sym c.has-else-has.ensures ∙ c.if-has-2.true))

pub returns-in_ok-variable : goal.returns-in_ok-variable
returns-in_ok-variable c =
    let facts = c.args.facts.now in
    let i = item_view facts.item.now in
    ap OfVariable c.in_ok-variable.ensures
    ∙ sym (is_variable c.args.place i facts.summary.set.0 facts.is_set (sym c.has.ensures ∙ c.if-has.false) (sym c.has-else-has.ensures ∙ c.if-has-2.false))
