-- What changes in blocks of storage of the program, and what is answered of places in them.
use Rattle.std.specs.Prelude.{◌≡◌, ◌≤◌, ℕ, true, false, nat_eq, Some, None, Result, Ok, Err}
use Rattle.std.specs.Prelude.{List, slice_get}
use Rattle.std.specs.Global.{Box}
use Rattle.pli_area_blocks.specs.answers.Parts.{PartStands}
use Rattle.pli_area_blocks.specs.declared.area_blocks.AreaBlocks.{AreaBlocks}
use Rattle.pli_area_blocks.specs.views.AreaBlocksView.{blocks_view, capacity_of}
use Rattle.pli_map.specs.Same.{same}
use Rattle.pli_map.specs.declared.description.Description.{Description as CodeDescription}
use Rattle.pli_map.specs.views.DescriptionView.{description_view}
use Rattle.std.specs.Borrow.{Bor}
use Rattle.pli_world.specs.Areas.{area_found, end_of_blocks, is_whole_area}
use Rattle.pli_world.specs.Storage as plain
use Rattle.pli_world.specs.Storage.{Block, Contents, Place, generation_in, scalar_at}
use Rattle.pli_world.specs.World.{World, Yields, Raises, Wrong, used}
use Rattle.pli_store.specs.declared.fault.StoreFault.{StoreFault}
use Rattle.pli_store.specs.declared.fault.StoreFault.TheVariants.{Raised, NoRule, OutOfMemory}
use Rattle.pli_store.specs.declared.generation.Generation.{Generation}
use Rattle.pli_store.specs.declared.storage.Storage.{Storage}
use Rattle.pli_store.specs.views.GenerationView.{generation_view}
use Rattle.pli_store.specs.views.StorageView.{storage_view, with_storage}

-- ---- one generation

-- the blocks of a generation have changed so, and nothing else of it
pub record BlocksChanged (old new : Generation) (change : List Block → List Block) : Type 0 where
  pub says : generation_view new
      ≡ record (generation_view old) { blocks = change (generation_view old).blocks }

-- nothing but blocks has changed
pub record OthersStay (old new : Generation) : Type 0 where
  pub says : generation_view new ≡ record (generation_view old) { blocks = (generation_view new).blocks }

-- an area of so many bytes has these blocks, and room for them
pub record TakesOver (capacity : ℕ) (source : List Block) (area : Box AreaBlocks) : Type 0 where
  pub room : capacity_of area.value ≡ capacity
  pub fits : end_of_blocks source ≤ capacity
  pub blocks : blocks_view area.value ≡ source

-- ---- places

-- the area of a place stands there
pub record AreaStands (gs : List plain.Generation) (p : Place) (at : ℕ) : Type 0 where
  pub generation : plain.Generation
  pub stands : slice_get gs at ≡ Some generation
  pub found : generation_in gs p.generation ≡ Some generation
  pub whole : is_whole_area generation p ≡ true

-- what is answered of the place of an area, where none stands there
abbrev pub AreaRefused : Place → World → StoreFault → Type 0
AreaRefused p w (Raised e) = area_found p w ≡ Raises e w
AreaRefused p w NoRule = area_found p w ≡ Wrong
AreaRefused p w OutOfMemory = ⊥

-- what is answered of the place of an area: where that stands, or why it does not
abbrev pub AreaLeads : Storage → Place → Result ℕ StoreFault → Type 0
AreaLeads s p (Ok at) = AreaStands (storage_view s) p at
AreaLeads s p (Err fault) = (w : World) → AreaRefused p (with_storage s w) fault

-- what is answered where the area of a place is asked for
abbrev pub AreaFound : Place → World → Result Unit StoreFault → Type 0
AreaFound p w (Ok x) = (g : plain.Generation) × (area_found p w ≡ Yields g w)
AreaFound p w (Err fault) = AreaRefused p w fault

-- what is answered where a place is used: the whole description of what it leads into, or that it leads into
-- nothing
abbrev pub WholeUsed : Place → World → Result (Bor CodeDescription) StoreFault → Type 0
WholeUsed p w (Ok d) = (c : Contents) × (used p w ≡ Yields c w) × (c.description ≡ description_view d.now)
WholeUsed p w (Err (Raised e)) = used p w ≡ Raises e w
WholeUsed p w (Err NoRule) = ⊥
WholeUsed p w (Err OutOfMemory) = ⊥

-- a place in a block leads to a part of a block of the generation that stands there
pub record BlockLeadsTo (gs : List plain.Generation) (p : Place) (at : ℕ) : Type 0 where
  pub generation : plain.Generation
  pub stands : slice_get gs at ≡ Some generation
  pub found : generation_in gs p.generation ≡ Some generation
  pub inside : nat_eq p.position 0 ≡ false
  pub part : PartStands generation.blocks p.position p.offset p.description
  pub same : same part.block.description p.whole ≡ true

-- what is answered of a place in a block: where it leads, why it leads into nothing, or that it leads to no
-- part
abbrev pub BlockLeads : List plain.Generation → Place → Result ℕ StoreFault → Type 0
BlockLeads gs p (Ok at) = BlockLeadsTo gs p at
BlockLeads gs p (Err (Raised e)) = (w : World) → w.storage ≡ gs → used p w ≡ Raises e w
BlockLeads gs p (Err NoRule) =
    (w : World) → w.storage ≡ gs
    → (c : Contents) × (used p w ≡ Yields c w) × (scalar_at c p ≡ None)
BlockLeads gs p (Err OutOfMemory) = ⊥
