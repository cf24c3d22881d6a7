-- Blocks that are placed: with all of their bytes, and as the table has their descriptions.
use Rattle.std.proofs.Common.{◌≡◌, ◌<◌, ℕ, Result, Option, Ok, Err, IfOk, OnErr, List, length, map, refl, sym, ap, ◌∙◌, subst, arith}
use Rattle.std.specs.Result.{result_ok}
use Rattle.pli_area.specs.Areas as area
use Rattle.pli_area.specs.Areas.{HasBytes, IsAdded, IsLeast}
use Rattle.pli_area.specs.declared.area.Full.{Full}
use Rattle.pli_world.specs.Areas.{taken_by, with_block}
use Rattle.pli_world.specs.Storage.{Block}
use Rattle.pli_area_blocks.specs.answers.Known.{AreKnown}
use Rattle.pli_area_blocks.specs.answers.Parts.{placed as placed_blocks}
use Rattle.pli_area_blocks.specs.views.BlocksView.{described, block_view}
use Rattle.pli_bytes.specs.Contents.{values_of}
use Rattle.pli_map.specs.Description.{Description}
use Rattle.pli_map.specs.Sizes.{size_of}
use Rattle.pli_value.specs.Value.{Value}
use Rattle.pli_area_blocks.proofs.ViewedBlocks.{placed_found, placed_written, whole_written, with_view, fit_view, known_with}

-- a block was added and all its bytes are written
module _ (a : area.Blocks) (new : List area.Block) (position description : ℕ) (bytes : List ℕ)
    (added : IsAdded a.blocks new position description (length bytes)) (least : IsLeast a (length bytes) position) where
  abbrev with_any : area.Block
  with_any = record { position = position; description = description; size = length bytes; bytes = added.bytes }

  pub placed_there : HasBytes new position 0 (length bytes)
  placed_there = record {
    block = with_any;
    found =
        ap (λ bs. area.block_at bs position) added.blocks
        ∙ placed_found with_any bytes least.allowed.header a.blocks least.allowed.apart;
    within = omega arith;
  }

  pub placed_whole : area.with_bytes new position 0 bytes
      ≡ area.with_block a.blocks (record { position = position; description = description; size = length bytes; bytes = bytes })
  placed_whole =
      ap (λ bs. area.with_bytes bs position 0 bytes) added.blocks
      ∙ placed_written with_any bytes least.allowed.header a.blocks least.allowed.apart
      ∙ ap (λ bs. let b : area.Block = record { position = position; description = description; size = length bytes; bytes = bs } in area.with_block a.blocks b)
      (whole_written added.bytes bytes added.count)

-- ---- in an area of which the descriptions are known

module _ (ds : List Description) (a : area.Blocks) (known : AreKnown ds a.blocks) (number : ℕ) (bytes : List ℕ) (there : number < length ds)
    (size : length bytes ≡ size_of (described ds number)) where
  abbrev placed : ℕ → area.Block
  placed position = record { position = position; description = number; size = length bytes; bytes = bytes }

  pub known_placed : (r : Result ℕ Full) (new : List area.Block)
      → IfOk r (λ position. new ≡ area.with_block a.blocks (record { position = position; description = number; size = length bytes; bytes = bytes }))
      → OnErr r (new ≡ a.blocks) → AreKnown ds new
  known_placed (Ok position) new blocks same =
      subst (AreKnown ds) (sym blocks) (known_with ds a.blocks (placed position) known (there, size, refl))
  known_placed (Err f) new blocks same = subst (AreKnown ds) (sym same) known

  pub place_is : (o : Option ℕ) → o ≡ area.first_fit a (length bytes)
      → area.first_fit (record { capacity = a.capacity; blocks = map taken_by (map (block_view ds) a.blocks); visited = 0 }) (size_of (described ds number)) ≡ o
  place_is o fit = sym (fit ∙ ap (area.first_fit a) size ∙ fit_view ds a.capacity a.blocks (size_of (described ds number)) known)

  pub placed_view : (position : ℕ) (new : List area.Block) (vs : List Value)
      → new ≡ area.with_block a.blocks (record { position = position; description = number; size = length bytes; bytes = bytes })
      → values_of (described ds number) bytes ≡ vs
      → map (block_view ds) new
      ≡ with_block (map (block_view ds) a.blocks) (record { position = position; description = described ds number; values = vs })
  placed_view position new vs blocks begins =
      ap (map (block_view ds)) blocks ∙ with_view ds a.blocks (placed position)
      ∙ ap (λ ws. let b : Block = record { position = position; description = described ds number; values = ws } in with_block (map (block_view ds) a.blocks) b) begins

  -- what is said of a block more, or of none
  pub placed_says : (d : Description) → described ds number ≡ d → (r : Result ℕ Full) (new : List area.Block)
      → IfOk r (λ position. new ≡ area.with_block a.blocks (record { position = position; description = number; size = length bytes; bytes = bytes }))
      → OnErr r (new ≡ a.blocks)
      → map (block_view ds) new ≡ placed_blocks (result_ok r) d (values_of d bytes) (map (block_view ds) a.blocks)
  placed_says d is (Ok position) new blocks same =
      placed_view position new (values_of (described ds number) bytes) blocks refl
      ∙ ap (λ e. let b : Block = record { position = position; description = e; values = values_of e bytes } in with_block (map (block_view ds) a.blocks) b) is
  placed_says d is (Err f) new blocks same = ap (map (block_view ds)) same
