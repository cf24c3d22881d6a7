use Rattle.std.proofs.Common.{List, map, sym, ap, ◌∙◌}
use Rattle.pli_map.specs.Description.{Structure}
use Rattle.pli_map.specs.ParameterTypes.{Stated, is_open, structure_with}
use Rattle.pli_map.specs.views.DescriptionView.{members_of}
use Rattle.pli_map.specs.views.ParameterView.{type_view}
use Rattle.pli_map.specs.declared.description.Description.TheVariants as program
use Rattle.pli_map.specs.declared.parameter.ParameterType as program_types
use Rattle.std.specs.List.{list_any}
use Rattle.pli_deck_write.proofs.DescriptionViews.{stated_said, structure_said, structure_of_said}
use Rattle.pli_deck_write.proofs.TypeLemmas.{stated_all, none_stated}
use Rattle.pli_deck_read.proofs.structures.structure_of.Goals as goal

pub returns-then-one_is_open : goal.returns-then-one_is_open
returns-then-one_is_open c =
    let ts = map type_view c.args.members.items in
    let open_one = ap (structure_with ts) (none_stated ts (ap (λ (xs : List program_types.ParameterType). list_any is_open (map type_view xs)) (sym c.deref.ensures.value) ∙ sym c.one_is_open.ensures ∙ c.if-one_is_open.true)) in
    structure_of_said c.args.members ∙ sym open_one

pub returns : goal.returns
returns c =
    let ts = map type_view c.args.members.items in
    let none = ap (λ (xs : List program_types.ParameterType). list_any is_open (map type_view xs)) (sym c.deref.ensures.value) ∙ sym c.one_is_open.ensures ∙ c.if-one_is_open.false in
    stated_said (program.Structure c.in_ok-descriptions.descriptions) ∙ ap Stated (structure_said c.in_ok-descriptions.descriptions)
    ∙ ap (λ ds. Stated (Structure (members_of ds))) c.in_ok-descriptions.ensures
    ∙ sym (ap (structure_with ts) (stated_all ts none))
