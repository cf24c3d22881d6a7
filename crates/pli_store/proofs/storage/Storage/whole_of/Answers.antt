use Rattle.std.proofs.Common.{sym, ◌∙◌, eq-eqb, ne_eqb}
use Rattle.std.proofs.lemmas.Bool.Decides.{same_from_decides}
use Rattle.pli_map.specs.Same.{same}
use Rattle.pli_map.specs.laws.SameLaws.{same_decides}
use Rattle.pli_map.specs.views.DescriptionView.{description_view}
use Rattle.pli_store.specs.views.StorageView.{place_view, target_view, with_storage}
use Rattle.pli_store.proofs.BlockPlaces.{target_dead, target_used, target_alike, target_replaced}
use Rattle.pli_store.proofs.storage.Storage.whole_of.Goals as goal

pub returns-in_default : goal.returns-in_default
returns-in_default c = λ w. target_dead (place_view c.args.place) (with_storage c.args.self.now w) (sym c.in_default.ensures)

pub returns-then-not-equals : goal.returns-then-not-equals
returns-then-not-equals c = λ w.
    let p = place_view c.args.place in
    let before = with_storage c.args.self.now w in
    let t = target_view c.in-Some.living in
    let d = description_view c.in-Some.living.place.description.now in
    let e = description_view c.args.place.whole.now in
    let told = same_from_decides c.equals.result (same d e) c.equals.ensures (same_decides d e) in
    target_replaced p before t (target_used p before t (sym c.in-Some.ensures)) (ne_eqb c.args.place.position 0 c.if-place-eq0.false) (sym told ∙ c.if-not-equals.true)

pub returns-then-place-eq0 : goal.returns-then-place-eq0
returns-then-place-eq0 c = λ w.
    let p = place_view c.args.place in
    let before = with_storage c.args.self.now w in
    let t = target_view c.in-Some.living in
    target_alike p before t (target_used p before t (sym c.in-Some.ensures))
    (λ inside. let both = sym (eq-eqb c.args.place.position 0 c.if-place-eq0.true) ∙ inside in cc)

pub returns : goal.returns
returns c = λ w.
    let p = place_view c.args.place in
    let before = with_storage c.args.self.now w in
    let t = target_view c.in-Some.living in
    let d = description_view c.in-Some.living.place.description.now in
    let e = description_view c.args.place.whole.now in
    let told = same_from_decides c.equals.result (same d e) c.equals.ensures (same_decides d e) in
    target_alike p before t (target_used p before t (sym c.in-Some.ensures)) (λ inside. sym told ∙ c.if-not-equals.false)
