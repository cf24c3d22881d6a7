-- Storage in which nothing has changed.
use Rattle.std.proofs.Common.{◌≡◌, Result, Ok, Err, OnErr, ap, ◌∙◌, subst}
use Rattle.pli_world.specs.World.{World, Answer}
use Rattle.pli_store.specs.answers.Answered.{Answered}
use Rattle.pli_store.specs.declared.fault.StoreFault.{StoreFault}
use Rattle.pli_store.specs.declared.storage.Storage.{Storage}
use Rattle.pli_store.specs.views.StorageView.{SameStorage, with_storage, storage_view, made_count}

-- the same storage, the same world
pub same_storage : (s t : Storage) (w : World) → SameStorage s t → with_storage t w ≡ with_storage s w
same_storage s t w same =
    ap (λ k. record w { storage = k; made = made_count t }) same.storage ∙ ap (λ k. record w { storage = storage_view s; made = k }) same.made

-- what is asked after what has changed nothing
module _ {T : Type 0} (r : Result T StoreFault) (before now last : Storage) (same : SameStorage before now) where
  pub answered_after : {A : Type 0} (view : T → A) (a : World → Answer A) (w : World)
      → Answered view r (with_storage now w) (with_storage last w) (a (with_storage now w)) → Answered view r (with_storage before w) (with_storage last w) (a (with_storage before w))
  answered_after view a w answer = subst (λ v. Answered view r v (with_storage last w) (a v)) (same_storage before now w same) answer

  pub unchanged_after : OnErr r (SameStorage now last) → OnErr r (SameStorage before last)
  unchanged_after f = by r f
    where
      by : (r : Result T StoreFault) → OnErr r (SameStorage now last) → OnErr r (SameStorage before last)
      by (Ok x) f = tt
      by (Err e) f = record { storage = f.storage ∙ same.storage; made = f.made ∙ same.made }
