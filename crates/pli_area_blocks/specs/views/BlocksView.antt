-- What blocks of an area of the program say.
use Rattle.std.specs.Prelude.{ℕ, List, map, get_or}
use Rattle.std.specs.Borrow.{Bor}
use Rattle.pli_area.specs.Areas as area
use Rattle.pli_bytes.specs.Contents.{values_of}
use Rattle.pli_map.specs.Description.{Description, FixedBinary}
use Rattle.pli_map.specs.declared.description.Description.{Description as CodeDescription}
use Rattle.pli_map.specs.views.DescriptionView.{description_view}
use Rattle.pli_world.specs.Storage.{Block}

-- descriptions by their numbers
abbrev pub wholes : List (Bor CodeDescription) → List Description
wholes ds = map (λ (d : Bor CodeDescription). description_view d.now) ds

-- the description of a number
abbrev pub described : List Description → (number : ℕ) → Description
described ds number = get_or ds number (FixedBinary 0)

-- a block, with what its bytes hold
abbrev pub block_view : List Description → area.Block → Block
block_view ds b =
    record {
      position = b.position;
      description = described ds b.description;
      values = values_of (described ds b.description) b.bytes;
    }
