use Rattle.std.proofs.Common.{◌≡◌, option_map, sym, ap, ◌∙◌}
use Rattle.pli_map.specs.views.DescriptionView.{description_view}
use Rattle.pli_map.specs.views.ParameterView.{type_seen}
use Rattle.pli_type_rules.specs.References.{locator_at}
use Rattle.pli_type_tree.specs.views.TypedView.{reference_view}
use Rattle.pli_type_expression.proofs.OpenLemmas.{open_no_locator, stated_so}
use Rattle.pli_type_expression.proofs.locator.locator_at.Goals as goal

pub returns-in-Some : goal.returns-in-Some
returns-in-Some c =
    let r = c.args.referent in
    let d = c.in-Some.description in
    c.described_locator.ensures
    ∙ ap (λ t. locator_at (reference_view r.reference) t r.area)
    (stated_so (type_seen r.description) (description_view d.now) (ap (option_map (λ d. description_view d.now)) (sym c.in-Some.is) ∙ c.stated.ensures))

pub returns-in-None : goal.returns-in-None
returns-in-None c =
    let r = c.args.referent in
    open_no_locator (reference_view r.reference) (type_seen r.description) r.area
    (ap (option_map (λ d. description_view d.now)) (sym c.in-None.is) ∙ c.stated.ensures)
