use Rattle.std.proofs.Common.{ap, sym, ◌∙◌, not}
use Rattle.pli_map.specs.views.DescriptionView.{members_view}
use Rattle.pli_type_rules.specs.NamedUnits.{is_plain, all_plain}
use Rattle.pli_type_names.proofs.PlainLemmas.{structure_plain, structure_empty}
use Rattle.pli_type_names.proofs.TreeLemmas.{structure_view, some_items, no_items}
use Rattle.pli_type_names.proofs.descriptions.+is_plain.Goals as goal

pub is_plain-returns-then-not-is_empty-2 : goal.is_plain-returns-then-not-is_empty-2
is_plain-returns-then-not-is_empty-2 t c =
    let members = c.in-Structure.members in
    let some = some_items members c.is_empty-in-Structure.result c.is_empty-in-Structure.ensures c.if-not-is_empty-2.true in
    c.are_plain.ensures ∙ ap (λ xs. all_plain 63 (members_view xs)) c.deref-then-not-is_empty-2.ensures.value
    ∙ sym (structure_plain members.items some)
    ∙ ap (is_plain 63) (sym (structure_view c.args.description.now members c.in-Structure.is))

pub is_plain-returns-else-not-is_empty-2 : goal.is_plain-returns-else-not-is_empty-2
is_plain-returns-else-not-is_empty-2 t c =
    let members = c.in-Structure.members in
    let none = no_items members c.is_empty-in-Structure.result c.is_empty-in-Structure.ensures c.if-not-is_empty-2.false in
    ap not c.if-not-is_empty-2.false ∙ sym (structure_empty members.items none)
    ∙ ap (is_plain 63) (sym (structure_view c.args.description.now members c.in-Structure.is))
