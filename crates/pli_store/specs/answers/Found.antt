-- What look-ups of the program answer.
use Rattle.std.specs.Prelude.{◌≡◌, ℕ, Some, None, Result, Ok, Err, List, slice_get}
use Rattle.pli_run.specs.declared.ending.RunError.TheVariants.{DeadLocator}
use Rattle.pli_map.specs.Description.{Description}
use Rattle.pli_map.specs.Scalars.{first_scalar}
use Rattle.pli_world.specs.Storage.{Generation, Place, generation_in}
use Rattle.pli_store.specs.declared.fault.StoreFault.{StoreFault}
use Rattle.pli_store.specs.declared.fault.StoreFault.TheVariants.{Raised, NoRule, OutOfMemory}
use Rattle.pli_store.specs.declared.part.GenerationPart.{GenerationPart}

-- the generation of a number stands at this place in the list
pub record StandsAt (gs : List Generation) (number at : ℕ) : Type 0 where
  pub generation : Generation
  pub stands : slice_get gs at ≡ Some generation
  pub found : generation_in gs number ≡ Some generation

-- a part of this description stands there: in this generation, and this scalar of it is its first
pub record PartStands (gs : List Generation) (part : GenerationPart) (d : Description) : Type 0 where
  pub generation : Generation
  pub scalar : ℕ
  pub stands : slice_get gs part.at ≡ Some generation
  pub first : first_scalar generation.description part.offset d ≡ Some scalar

-- a place outside areas leads to this part
pub record LeadsTo (gs : List Generation) (p : Place) (part : GenerationPart) : Type 0 where
  pub outside : p.position ≡ 0
  pub there : PartStands gs part p.description
  pub found : generation_in gs p.generation ≡ Some there.generation
  pub first : first_scalar there.generation.description p.offset p.description ≡ Some there.scalar

-- a place leads to no part outside areas: it leads into a block, its generation has ended, or no such part
-- stands there
abbrev pub LeadsToNone : List Generation → Place → Type 0
LeadsToNone gs p = (part : GenerationPart) → LeadsTo gs p part → ⊥

-- a place outside areas leads to no part of its generation
pub record LeadsNowhere (gs : List Generation) (p : Place) : Type 0 where
  pub outside : p.position ≡ 0
  pub generation : Generation
  pub found : generation_in gs p.generation ≡ Some generation
  pub nowhere : first_scalar generation.description p.offset p.description ≡ None

-- what is answered of a place: where it leads, that it is dead, or, outside areas, that it leads to no part
abbrev pub Leads : List Generation → Place → Result GenerationPart StoreFault → Type 0
Leads gs p (Ok part) = LeadsTo gs p part
Leads gs p (Err (Raised e)) = (e ≡ DeadLocator) × (generation_in gs p.generation ≡ None)
Leads gs p (Err NoRule) = p.position ≡ 0 → LeadsNowhere gs p
Leads gs p (Err OutOfMemory) = ⊥
