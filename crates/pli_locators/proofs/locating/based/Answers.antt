use Rattle.std.proofs.lemmas.Result.{err_from_is_err_and}
use Rattle.pli_map.specs.views.DescriptionView.{description_view}
use Rattle.pli_store.specs.views.StorageView.{with_storage}
use Rattle.pli_locators.proofs.TargetsFound.{based_refused, based_there}
use Rattle.pli_locators.proofs.locating.based.Goals as goal

pub returns-in_err-living : goal.returns-in_err-living
returns-in_err-living c = λ w.
    let p = err_from_is_err_and c.from_residual.result c.from_residual.ensures.1 in
    rw (p.1, p.2)
    (based_refused (description_view c.args.description.now) c.args.locator (with_storage c.args.storage.now w) c.in_err-living.field-0.0
    (c.in_err-living.ensures w))

pub returns : goal.returns
returns c = λ w.
    based_there (description_view c.args.description.now) c.args.locator (with_storage c.args.storage.now w) c.in_ok-living.living
    (c.in_ok-living.ensures w)
