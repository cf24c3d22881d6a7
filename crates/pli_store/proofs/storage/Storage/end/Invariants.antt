use Rattle.std.proofs.Common.{◌≡◌, drop}
use Rattle.pli_world.specs.Storage.{without}
use Rattle.pli_store.specs.views.StorageView.{storage_view, made_count}
use Rattle.pli_store.proofs.storage.Storage.end.Given as goal

abbrev pub invariant-loop-at : goal.invariant-loop-at
invariant-loop-at l = record {
  storage : storage_view l.self ≡ without (drop l.at l.numbers) (storage_view l.initial.self);
  made : made_count l.self ≡ made_count l.initial.self;
}
