use Rattle.std.proofs.Common.{refl}
use Rattle.std.proofs.lemmas.Result.{err_from_is_err_and}
use Rattle.pli_map.specs.views.DescriptionView.{description_view}
use Rattle.pli_store.specs.views.StorageView.{with_storage}
use Rattle.pli_world.specs.Locating.{located}
use Rattle.pli_locators.proofs.TargetsFound.{located_dead, located_there}
use Rattle.pli_locators.proofs.locating.located.Goals as goal

pub returns-in-Null : goal.returns-in-Null
unfolding located
returns-in-Null c = λ w. rw c.in-Null.is refl

pub returns-in-Offset : goal.returns-in-Offset
unfolding located
returns-in-Offset c = λ w. rw c.in-Offset.is refl

pub returns-in_err-living_at-in-Pointer : goal.returns-in_err-living_at-in-Pointer
returns-in_err-living_at-in-Pointer c = λ w.
    let p = err_from_is_err_and c.from_residual.result c.from_residual.ensures.1 in
    let before = with_storage c.args.storage.now w in
    rw (p.1, p.2, c.in-Pointer.is)
    (located_dead (description_view c.args.description.now) c.in-Pointer.generation c.in-Pointer.position before
    c.in_err-living_at-in-Pointer.field-0.0 (c.in_err-living_at-in-Pointer.ensures before))

pub returns-in_ok-living_at-in-Pointer : goal.returns-in_ok-living_at-in-Pointer
returns-in_ok-living_at-in-Pointer c = λ w.
    let before = with_storage c.args.storage.now w in
    rw c.in-Pointer.is
    (located_there (description_view c.args.description.now) c.in-Pointer.generation c.in-Pointer.position before
    c.in_ok-living_at-in-Pointer.field-0 c.of_description.result (c.in_ok-living_at-in-Pointer.ensures before)
    (c.of_description.ensures before))
