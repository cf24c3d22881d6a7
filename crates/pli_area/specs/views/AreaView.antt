-- What an area of the program says.
use Rattle.std.specs.Prelude.{◌+◌, ℕ, Bool, true, false, List, [], ◌∷◌}
use Rattle.std.specs.Prelude.{take, drop}
use Rattle.pli_area.specs.Areas.{Block}
use Rattle.pli_region.specs.Words.{word_at}

-- the block whose header is at a place: a word for its description and one for its size
abbrev pub block_from : (bytes : List ℕ) → (at : ℕ) → Block
block_from bytes at =
    record {
      position = at + 8;
      description = word_at bytes at;
      size = word_at bytes (at + 4);
      bytes = take (word_at bytes (at + 4)) (drop (at + 8) bytes);
    }

-- the blocks whose headers are marked, where there is one mark for 8 bytes from a place on
abbrev pub blocks_from : (bytes : List ℕ) → (from : ℕ) → (marks : List Bool) → List Block
blocks_from bytes from [] = []
blocks_from bytes from (true ∷ marks) = block_from bytes from ∷ blocks_from bytes (from + 8) marks
blocks_from bytes from (false ∷ marks) = blocks_from bytes (from + 8) marks
