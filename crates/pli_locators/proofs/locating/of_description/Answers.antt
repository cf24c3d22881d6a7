use Rattle.std.proofs.Common.{sym, ◌∙◌}
use Rattle.std.proofs.lemmas.Bool.Decides.{same_from_decides}
use Rattle.pli_map.specs.Same.{same}
use Rattle.pli_map.specs.laws.SameLaws.{same_decides}
use Rattle.pli_map.specs.views.DescriptionView.{description_view}
use Rattle.pli_store.specs.views.StorageView.{target_view}
use Rattle.pli_locators.proofs.TargetsFound.{unless_other_same, unless_other_differs}
use Rattle.pli_locators.proofs.locating.of_description.Goals as goal

pub returns-then-is_same : goal.returns-then-is_same
returns-then-is_same c = λ w.
    let d = description_view c.args.living.place.description.now in
    let e = description_view c.args.description.now in
    let told = same_from_decides c.is_same.result (same d e) c.is_same.ensures (same_decides d e) in
    unless_other_same e (target_view c.args.living) w (sym told ∙ c.if-is_same.true)

pub returns-else-is_same : goal.returns-else-is_same
returns-else-is_same c = λ w.
    let d = description_view c.args.living.place.description.now in
    let e = description_view c.args.description.now in
    let told = same_from_decides c.is_same.result (same d e) c.is_same.ensures (same_decides d e) in
    unless_other_differs e (target_view c.args.living) w (sym told ∙ c.if-is_same.false)
