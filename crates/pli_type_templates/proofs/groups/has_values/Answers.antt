use Rattle.std.proofs.Common.{◌≡◌, ◌+◌, ◌++◌, ◌∷◌, [], drop, length, ap, sym, ◌∙◌}
use Rattle.std.specs.List.{flat_map}
use Rattle.std.proofs.lemmas.Bool.{eqb-true}
use Rattle.std.proofs.lemmas.List.{drop_more, nil_from_length}
use Rattle.pli_map.specs.views.DescriptionView.{description_view}
use Rattle.pli_type_rules.specs.InitialScalars.{InitialItem, initial_scalars}
use Rattle.pli_type_templates.specs.views.ItemView.{item_view, items_view}
use Rattle.pli_type_templates.proofs.NoValues.{item_none, none_given}
use Rattle.pli_type_templates.proofs.groups.has_values.Goals as goal

pub loop-member-preserved : goal.loop-member-preserved
loop-member-preserved c =
    let l = c.loop-member in
    let d = description_view c.args.made.now.description.now in
    let members = c.args.made.now.members.now in
    let m = c.member-item.result in
    let others = drop (l.member-index + 1) members in
    let step = drop_more members l.member-index m c.loop-member-test.true ∙ ap (λ x. x ∷ others) (sym c.member-item.is) in
    let none : m.values.now ≡ [] = nil_from_length m.values.now (eqb-true (length m.values.now) 0 (cc)) in
    let rest = flat_map (initial_scalars d) (items_view others) in
    ap (λ is. is ++ rest) (sym (item_none d (item_view m) none))
    ∙ ap (λ ms. flat_map (initial_scalars d) (items_view ms)) (sym step)
    ∙ l.invariant

pub returns : goal.returns
returns c =
    let l = c.loop-member in
    let m = c.args.made.now in
    let own : InitialItem = record { path = []; values = m.values.now } in
    let none : m.values.now ≡ [] = nil_from_length m.values.now (eqb-true (length m.values.now) 0 (sym c.is_empty.ensures ∙ c.if-not-is_empty.false)) in
    λ _. none_given (description_view m.description.now) own m.members.now l.member-index none c.loop-member-test.false l.invariant
