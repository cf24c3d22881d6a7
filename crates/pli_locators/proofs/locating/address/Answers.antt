use Rattle.std.proofs.Common.{refl, sym, ap, ◌∙◌, eq-eqb, ne_eqb}
use Rattle.std.proofs.lemmas.Bool.Decides.{same_from_decides}
use Rattle.std.proofs.lemmas.Result.{err_from_is_err_and}
use Rattle.pli_map.specs.Same.{same}
use Rattle.pli_map.specs.laws.SameLaws.{same_decides}
use Rattle.pli_map.specs.views.DescriptionView.{description_view}
use Rattle.pli_store.specs.views.StorageView.{place_view, with_storage}
use Rattle.pli_world.specs.World.{Yields}
use Rattle.pli_locators.proofs.TargetsFound.{address_refused, address_of_whole, address_of_part}
use Rattle.pli_locators.proofs.locating.address.Goals as goal
use Rattle.pli_locators.proofs.locating.address.Goals.{else-place-eq0-via-then-place-eq0+else-equals, else-place-eq0-via-else-place-eq0}

pub returns-in_err-whole : goal.returns-in_err-whole
returns-in_err-whole c = λ w.
    let p = err_from_is_err_and c.from_residual.result c.from_residual.ensures.1 in
    rw (p.1, p.2) (address_refused (place_view c.args.place) (with_storage c.args.storage.now w) c.in_err-whole.field-0.0 (c.in_err-whole.ensures w))

pub returns-then-equals : goal.returns-then-equals
returns-then-equals c = λ w.
    let before = with_storage c.args.storage.now w in
    let d = description_view c.in_ok-whole.whole.now in
    let e = description_view c.args.place.description.now in
    let told = same_from_decides c.equals.result (same d e) c.equals.ensures (same_decides d e) in
    address_of_whole (place_view c.args.place) before c.in_ok-whole.whole (c.in_ok-whole.ensures w)
    (rw (eq-eqb c.args.place.offset 0 c.if-place-eq0.true) (sym told ∙ c.if-equals.true))
    ∙ ap (λ l. Yields l before) (sym c.pointer_to.ensures)

pub returns-else-place-eq0 : goal.returns-else-place-eq0
returns-else-place-eq0 c = λ w.
    let before = with_storage c.args.storage.now w in
    let d = description_view c.in_ok-whole.whole.now in
    let e = description_view c.args.place.description.now in
    elim c.else-place-eq0.branch [
      | else-place-eq0-via-then-place-eq0+else-equals v ↦
          let told = same_from_decides v.equals.result (same d e) v.equals.ensures (same_decides d e) in
          address_of_part (place_view c.args.place) before c.in_ok-whole.whole (c.in_ok-whole.ensures w)
          (rw (eq-eqb c.args.place.offset 0 v.if-place-eq0.true) (sym told ∙ v.if-equals.false))
      | else-place-eq0-via-else-place-eq0 v ↦
          address_of_part (place_view c.args.place) before c.in_ok-whole.whole (c.in_ok-whole.ensures w)
          (rw (ne_eqb c.args.place.offset 0 v.if-place-eq0.false) refl)
    ]
