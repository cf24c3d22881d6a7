use Rattle.std.proofs.Common.{refl, ap, sym, ◌∙◌}
use Rattle.std.proofs.lemmas.Result.{IfOk-weaker}
use Rattle.pli_map.specs.views.DescriptionView.{description_view}
use Rattle.pli_map.specs.views.ParameterView.{type_view}
use Rattle.pli_deck_faults.specs.Places.{placed_type}
use Rattle.pli_deck_faults.proofs.FoundPlaces.{places_stated, places_open}
use Rattle.pli_deck_faults.proofs.limits.placed_in.Goals as goal

pub returns-in-Some : goal.returns-in-Some
returns-in-Some c =
    let t = type_view c.args.of.now in
    let same = places_stated t (placed_type t) (description_view c.in-Some.description.now) refl (sym c.in-Some.ensures) in
    IfOk-weaker c.placed_scalars.result _ _ (λ p e. e ∙ sym same) c.placed_scalars.ensures

pub returns-in-None : goal.returns-in-None
returns-in-None c = sym (places_open (type_view c.args.of.now) (sym c.in-None.ensures))
