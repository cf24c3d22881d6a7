-- What lives at a position of a generation (X3.53): at 0 the generation itself, and else a block of it.
use Rattle.std.specs.Prelude.{ℕ, nat_eq, Option, Some, option_map, option_and_then, List}
use Rattle.std.specs.Prelude.{if◌then◌else◌}
use Rattle.pli_world.specs.Storage.{Block, Generation, Made, Based, Place, whole, block_at, generation_in}
use Rattle.pli_world.specs.Storage.{whole_at}

-- what lives at a position: the place of the whole of it, and how it was made
pub record Target : Type 0 where
  pub place : Place
  pub made : Made

-- a block as such: ALLOCATE of a BASED variable has made it
abbrev pub block_target : (generation : ℕ) → Block → Target
block_target generation b =
    record { place = whole_at generation b.position b.description; made = Based }

-- what lives at a position of this generation
abbrev pub target_in : (position : ℕ) → Generation → Option Target
target_in position g =
    if nat_eq position 0
    then Some (record { place = whole g.number g.description; made = g.made })
    else option_map (block_target g.number) (block_at g.blocks position)

-- what lives at a position of the generation of a number
abbrev pub target_at : (generation position : ℕ) → List Generation → Option Target
target_at generation position gs = option_and_then (target_in position) (generation_in gs generation)
