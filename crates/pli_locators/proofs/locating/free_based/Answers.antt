use Rattle.std.proofs.Common.{refl, sym, ap, ◌∙◌}
use Rattle.std.proofs.lemmas.Result.{err_from_is_err_and}
use Rattle.pli_map.specs.views.DescriptionView.{description_view}
use Rattle.pli_store.specs.views.StorageView.{storage_view, with_storage}
use Rattle.pli_store.specs.views.GenerationView.{made_view}
use Rattle.pli_world.specs.World.{Yields}
use Rattle.pli_world.specs.Locating.{is_allocated}
use Rattle.pli_locators.proofs.TargetsFound.{freed_refused, freed_there, freed_other, not_allocated}
use Rattle.pli_locators.proofs.locating.free_based.Goals as goal

pub returns-in_err-living-clause-answer : goal.returns-in_err-living-clause-answer
returns-in_err-living-clause-answer c = λ w.
    let p = err_from_is_err_and c.from_residual.result c.from_residual.ensures.1 in
    let before = with_storage c.args.storage.now w in
    rw (p.1, p.2)
    (freed_refused (description_view c.args.description.now) c.args.locator before c.in_err-living.field-0.0 before
    (c.in_err-living.ensures w))

pub returns-in-Based-clause-answer : goal.returns-in-Based-clause-answer
returns-in-Based-clause-answer c = λ w.
    let before = with_storage c.args.storage.now w in
    freed_there (description_view c.args.description.now) c.args.locator before c.in_ok-living.living (c.in_ok-living.ensures w)
    (ap (λ m. is_allocated (made_view m)) c.in-Based.is)
    ∙ ap (λ gs. Yields tt (record before { storage = gs })) (sym c.end_whole.ensures.storage)
    ∙ ap (λ n. Yields tt (record before { storage = storage_view c.end_whole.new.storage; made = n })) (sym c.end_whole.ensures.made)

pub returns-in_default : goal.returns-in_default
returns-in_default c = record {
  answer = λ w.
      freed_other (description_view c.args.description.now) c.args.locator (with_storage c.args.storage.now w) c.in_ok-living.living
      (c.in_ok-living.ensures w) (not_allocated c.in_ok-living.living.made c.in_default.not-Based);
  err = record { storage = refl; made = refl };
}
