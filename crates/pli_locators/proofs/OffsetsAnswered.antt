-- What is answered of pointers as offsets, and of offsets as pointers.
use Rattle.std.proofs.Common.{◌≡◌, ℕ, true, false, nat_eq, Err, refl}
use Rattle.pli_run.specs.declared.ending.RunError.TheVariants.{OutsideArea}
use Rattle.pli_store.specs.answers.Answered.{Answered}
use Rattle.pli_store.specs.answers.Blocks.{AreaFound}
use Rattle.pli_store.specs.declared.fault.StoreFault.{StoreFault}
use Rattle.pli_store.specs.declared.fault.StoreFault.TheVariants.{Raised, NoRule, OutOfMemory}
use Rattle.pli_value.specs.declared.locator.Locator.{Locator}
use Rattle.pli_value.specs.declared.locator.Locator.TheVariants.{Null, Pointer, Offset}
use Rattle.pli_world.specs.Areas.{area_found, is_within, offset_in, pointer_in}
use Rattle.pli_world.specs.Storage.{Generation, Place}
use Rattle.pli_world.specs.World.{World, Yields, Raises, Wrong}

module _ (p : Place) (w : World) where
  pub null_refused : (f : StoreFault) → AreaFound p w (Err f) → Answered {T = Locator} (λ l. l) (Err f) w w (offset_in p Null w)
  unfolding offset_in
  null_refused (Raised e) u = rw u refl
  null_refused NoRule u = rw u refl
  null_refused OutOfMemory u = tt

  module _ (generation position : ℕ) where
    pub offset_refused : (f : StoreFault) → AreaFound p w (Err f) → Answered {T = Locator} (λ l. l) (Err f) w w (offset_in p (Pointer generation position) w)
    unfolding offset_in
    offset_refused (Raised e) u = rw u refl
    offset_refused NoRule u = rw u refl
    offset_refused OutOfMemory u = tt

  pub pointer_refused : (position : ℕ) (f : StoreFault) → AreaFound p w (Err f) → Answered {T = Locator} (λ l. l) (Err f) w w (pointer_in p (Offset position) w)
  unfolding pointer_in
  pointer_refused position (Raised e) u = rw u refl
  pointer_refused position NoRule u = rw u refl
  pointer_refused position OutOfMemory u = tt

  pub no_offset_of_offset : (position : ℕ) → offset_in p (Offset position) w ≡ Wrong
  unfolding offset_in
  no_offset_of_offset position = refl

  pub no_pointer_of_null : pointer_in p Null w ≡ Wrong
  unfolding pointer_in
  no_pointer_of_null = refl

  pub no_pointer_of_pointer : (generation position : ℕ) → pointer_in p (Pointer generation position) w ≡ Wrong
  unfolding pointer_in
  no_pointer_of_pointer generation position = refl

  module _ (u : (g : Generation) × (area_found p w ≡ Yields g w)) where
    pub null_offset : offset_in p Null w ≡ Yields (Offset 0) w
    unfolding offset_in
    null_offset = rw u.1 refl

    pub offset_there : (generation position : ℕ) → is_within p.generation generation position ≡ true
        → offset_in p (Pointer generation position) w ≡ Yields (Offset position) w
    unfolding offset_in
    offset_there generation position is = rw (u.1, is) refl

    pub offset_outside : (generation position : ℕ) → is_within p.generation generation position ≡ false
        → offset_in p (Pointer generation position) w ≡ Raises OutsideArea w
    unfolding offset_in
    offset_outside generation position is = rw (u.1, is) refl

    pub null_pointer : (position : ℕ) → nat_eq position 0 ≡ true → pointer_in p (Offset position) w ≡ Yields Null w
    unfolding pointer_in
    null_pointer position is = rw (u.1, is) refl

    pub pointer_there : (position : ℕ) → nat_eq position 0 ≡ false → pointer_in p (Offset position) w ≡ Yields (Pointer p.generation position) w
    unfolding pointer_in
    pointer_there position is = rw (u.1, is) refl
