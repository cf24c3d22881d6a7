-- What a look-up answers of a block.
use Rattle.std.specs.Prelude.{ℕ}
use Rattle.pli_area.specs.Areas as plain
use Rattle.pli_area.specs.declared.area.Block.{Block}

-- the number of a block's description, and how many bytes the block has
abbrev pub of_block : plain.Block → ℕ × ℕ
of_block b = (b.description, b.size)

-- the same of an answer
abbrev pub described : Block → ℕ × ℕ
described b = (b.description, b.size)
