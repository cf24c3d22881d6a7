-- Worked examples of areas.
use Rattle.std.specs.Prelude.{◌≡◌, ℕ, Some, None, List, [], ◌∷◌, length}
use Rattle.pli_area.specs.Areas.{Block, Blocks, first_fit, holes_visited, extent, holes, block_at}
use Rattle.pli_area.specs.Areas.{with_block, without_block}
use Rattle.pli_area.specs.Areas.{with_bytes, bytes_at}

-- a block of 8 bytes of description 1
abbrev pub block : (position : ℕ) → (bytes : List ℕ) → Block
block position bytes = record { position = position; description = 1; size = 8; bytes = bytes }

-- eight bytes
abbrev pub eight : (first : ℕ) → List ℕ
eight first = first ∷ 2 ∷ 3 ∷ 4 ∷ 5 ∷ 6 ∷ 7 ∷ 8 ∷ []

-- an area of so many bytes with these blocks
abbrev pub with_blocks : (capacity : ℕ) → List Block → Blocks
with_blocks capacity blocks = record { capacity = capacity; blocks = blocks; visited = 0 }

-- an area of 32 bytes with no block
abbrev pub no_block : Blocks
no_block = with_blocks 32 []

-- with a block of 8 bytes, at the first place that fits
abbrev pub one_block : Blocks
one_block = with_blocks 32 (with_block [] (block 8 (eight 1)))

-- with a second one after it
abbrev pub two_blocks : Blocks
two_blocks = with_blocks 32 (with_block one_block.blocks (block 24 (eight 9)))

-- with the second alone, after the first is freed
abbrev pub second_block : Blocks
second_block = with_blocks 32 (without_block two_blocks.blocks 8)

-- 32 bytes hold two blocks of 8 bytes, at 8 and 24, and then not one of a single byte
abbrev pub TwoBlocksFit : Type 0
TwoBlocksFit =
    (first_fit no_block 8 ≡ Some 8) × (first_fit one_block 8 ≡ Some 24) × (first_fit two_blocks 1 ≡ None)

-- the second alone: one block, whose end is the extent, after a hole of 16 bytes, where one of 8 bytes
-- fits and none of 9
abbrev pub SecondIsLeft : Type 0
SecondIsLeft = (length second_block.blocks ≡ 1) × (extent second_block.blocks ≡ 32)
    × (holes second_block ≡ record { start = 0; room = 16 } ∷ [])
    × (first_fit second_block 8 ≡ Some 8) × (first_fit second_block 9 ≡ None)

-- without both one hole is left, where a block of 16 bytes fits, and nothing is live at 24
abbrev pub HolesJoin : Type 0
HolesJoin =
    (holes (with_blocks 32 (without_block second_block.blocks 24))
    ≡ record { start = 0; room = 32 } ∷ [])
    × (first_fit (with_blocks 32 (without_block second_block.blocks 24)) 16 ≡ Some 8)
    × (block_at (without_block second_block.blocks 24) 24 ≡ None)

-- a block of 8 bytes with any
abbrev pub some_block : (position : ℕ) → Block
some_block position = block position (eight 0)

-- 64 bytes with blocks at 24 and 56: both holes of 16 bytes are looked at for a block of 16, and none is long
-- enough; with the second alone the first hole is
abbrev pub HolesAreVisited : Type 0
HolesAreVisited = (first_fit (with_blocks 64 (some_block 24 ∷ some_block 56 ∷ [])) 16 ≡ None)
    × (holes_visited (with_blocks 64 (some_block 24 ∷ some_block 56 ∷ [])) 16 ≡ 2)
    × (first_fit (with_blocks 64 (some_block 56 ∷ [])) 40 ≡ Some 8)
    × (holes_visited (with_blocks 64 (some_block 56 ∷ [])) 40 ≡ 1)

-- a size of 0 takes a header alone, one of 9 takes 16 bytes, and blocks stand in order whichever came first
abbrev pub SizesAreRounded : Type 0
SizesAreRounded = (first_fit (with_blocks 8 []) 0 ≡ Some 8)
    × (first_fit (with_blocks 16 []) 9 ≡ None)
    × (first_fit (with_blocks 24 []) 9 ≡ Some 8)
    × (with_block second_block.blocks (block 8 (eight 1)) ≡ two_blocks.blocks)

-- bytes written into a block are read there, and nowhere else
abbrev pub BytesStay : Type 0
BytesStay = (bytes_at (with_bytes two_blocks.blocks 24 6 (70 ∷ 80 ∷ [])) 24 5 3 ≡ 6 ∷ 70 ∷ 80 ∷ [])
    × (bytes_at (with_bytes two_blocks.blocks 24 6 (70 ∷ 80 ∷ [])) 8 0 8 ≡ eight 1)
