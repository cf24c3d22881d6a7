use Rattle.std.proofs.Common.{map, sym, ap, ◌∙◌}
use Rattle.std.proofs.lemmas.Result.{err_from_is_err_and}
use Rattle.pli_map.specs.views.DescriptionView.{description_view}
use Rattle.pli_store.specs.views.StorageView.{with_storage}
use Rattle.pli_type_tree.specs.Templates.{variable_of}
use Rattle.pli_type_tree.specs.views.TemplateView.{initial_view}
use Rattle.pli_world.specs.World.{Yields}
use Rattle.pli_locators.proofs.TargetsFound.{allocated_refused, allocated_there}
use Rattle.pli_locators.proofs.locating.allocate_based_of.Goals as goal

pub returns-in_err-place-clause-answer : goal.returns-in_err-place-clause-answer
returns-in_err-place-clause-answer c = λ w.
    let p = err_from_is_err_and c.from_residual.result c.from_residual.ensures.1 in
    let v = variable_of (record { description = description_view c.args.kind.now.description.now; initial = map initial_view c.args.scalars.now }) in
    rw (p.1, p.2)
    (allocated_refused v (with_storage c.args.storage.now w) (with_storage c.make_initial_of.new.storage w) c.in_err-place.field-0.0
    (c.in_err-place.ensures.answer w))

pub returns-clause-answer : goal.returns-clause-answer
returns-clause-answer c = λ w.
    let v = variable_of (record { description = description_view c.args.kind.now.description.now; initial = map initial_view c.args.scalars.now }) in
    let after = with_storage c.make_initial_of.new.storage w in
    allocated_there v (with_storage c.args.storage.now w) after c.in_ok-place.place (c.in_ok-place.ensures.answer w)
    ∙ ap (λ l. Yields l after) (sym c.pointer_to.ensures)
