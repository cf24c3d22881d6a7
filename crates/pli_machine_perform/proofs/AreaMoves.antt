-- What instructions on areas do.
use Rattle.std.proofs.Common.{◌≡◌, ℕ, true, false, Result, Ok, Err, List, [], ◌∷◌, refl, ap, ◌∙◌}
use Rattle.pli_map.specs.Scalars.{is_area}
use Rattle.pli_map.specs.Variables.{Variable}
use Rattle.pli_value.specs.Value.{Number, Characters, Bits, Located}
use Rattle.pli_value.specs.declared.locator.Locator.{Locator}
use Rattle.pli_world.specs.Areas.{allocated_in, offset_in, pointer_in}
use Rattle.pli_world.specs.Ends as end
use Rattle.pli_world.specs.Locating.{block_made, offset_made, pointer_within}
use Rattle.pli_world.specs.Storage.{Place}
use Rattle.pli_world.specs.World.{World, Yields, Wrong, further}
use Rattle.pli_machine_step.specs.Machine.{Operand, OfValue, AtPlace, AtDummy, Frame}
use Rattle.pli_store.specs.answers.Answered.{Answered}
use Rattle.pli_store.specs.declared.fault.StoreFault.{StoreFault}
use Rattle.pli_store.specs.declared.fault.StoreFault.TheVariants as fault
use Rattle.pli_machine_activations.specs.views.MachineView.{leads, Finished, left_by_end}
use Rattle.pli_machine_operate.specs.views.OperandView.{NoNewestLocator}
use Rattle.pli_machine_perform.specs.views.ActView.{offset_as, pointer_as}

-- ---- operations by values

pub pointer_by : (p : Place) (l : Locator) (w : World) → pointer_within p (Located l) w ≡ further (pointer_in p l w) (λ q w. Yields (Located q) w)
unfolding pointer_within
pointer_by p l w = refl

pub offset_by : (p : Place) (l : Locator) (w : World) → offset_made p (Located l) w ≡ further (offset_in p l w) (λ o w. Yields (Located o) w)
unfolding offset_made
offset_by p l w = refl

module _ (p : Place) (v : Variable) (w : World) where
  pub block_by : is_area v.description ≡ false → block_made p v w ≡ further (allocated_in p v w) (λ l w. Yields (Located l) w)
  unfolding block_made
  block_by none = rw none refl

  pub no_block : is_area v.description ≡ true → block_made p v w ≡ Wrong
  unfolding block_made
  no_block area = rw area refl

-- what makes a block answers as the operation by values
pub located_answers : (r : Result Locator StoreFault) (before after : World) (p : Place) (v : Variable) → is_area v.description ≡ false
    → Answered (λ l. l) r before after (allocated_in p v before) → Answered (λ l. Located l) r before after (block_made p v before)
located_answers (Ok l) before after p v none is = block_by p v before none ∙ ap (λ a. further a (λ l w. Yields (Located l) w)) is
located_answers (Err (fault.Raised e)) before after p v none is = block_by p v before none ∙ ap (λ a. further a (λ l w. Yields (Located l) w)) is
located_answers (Err fault.NoRule) before after p v none is = block_by p v before none ∙ ap (λ a. further a (λ l w. Yields (Located l) w)) is
located_answers (Err fault.OutOfMemory) before after p v none is = tt

-- ---- where the newest operand is no locator, it is a fault

module _ (p : Place) (here : Frame) (frames : List Frame) (w : World) (left : ℕ) where
  pub no_offset : (ops : List Operand) → NoNewestLocator ops
      → leads (pointer_as p ops here frames w) left ≡ Finished (left_by_end end.MachineFault w)
  unfolding pointer_within
  no_offset [] none = refl
  no_offset (OfValue (Number x) ∷ ops) none = refl
  no_offset (OfValue (Characters text) ∷ ops) none = refl
  no_offset (OfValue (Bits bits) ∷ ops) none = refl
  no_offset (OfValue (Located l) ∷ ops) none = absurd none
  no_offset (AtPlace q ∷ ops) none = refl
  no_offset (AtDummy q ∷ ops) none = refl

  pub no_pointer : (ops : List Operand) → NoNewestLocator ops
      → leads (offset_as p ops here frames w) left ≡ Finished (left_by_end end.MachineFault w)
  unfolding offset_made
  no_pointer [] none = refl
  no_pointer (OfValue (Number x) ∷ ops) none = refl
  no_pointer (OfValue (Characters text) ∷ ops) none = refl
  no_pointer (OfValue (Bits bits) ∷ ops) none = refl
  no_pointer (OfValue (Located l) ∷ ops) none = absurd none
  no_pointer (AtPlace q ∷ ops) none = refl
  no_pointer (AtDummy q ∷ ops) none = refl
