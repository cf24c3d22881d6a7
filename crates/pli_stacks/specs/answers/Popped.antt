-- A stack whose newest generation ends.
use Rattle.std.specs.Prelude.{◌≡◌, ℕ, [], ◌∷◌}
use Rattle.pli_world.specs.Storage.{whole, without}
use Rattle.pli_store.specs.declared.storage.Storage.{Storage}
use Rattle.pli_store.specs.views.StorageView.{made_count, storage_view}
use Rattle.pli_stacks.specs.declared.stack.Stack.{Stack}
use Rattle.pli_stacks.specs.views.StackView.{stack_view}

-- the newest generation is taken off a stack, and ends
pub record IsPopped (old new : Stack) (before after : Storage) : Type 0 where
  pub number : ℕ
  pub places : stack_view old
      ≡ record (stack_view new) { places = whole number (stack_view new).variable.description ∷ (stack_view new).places }
  pub ended : storage_view after ≡ without (number ∷ []) (storage_view before)
  pub made : made_count after ≡ made_count before
