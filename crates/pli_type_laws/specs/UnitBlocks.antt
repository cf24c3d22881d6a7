-- The blocks of a resolved unit are those of its tree.
use Rattle.std.specs.Prelude.{◌≡◌, ℕ, Option, map}
use Rattle.pli_declare.specs.ResolvedUnits.{ResolvedUnit, ResolvedBlock}
use Rattle.pli_declare.specs.declared.block_numbers.ResolvedBlockKind.{ResolvedBlockKind}
use Rattle.pli_type_laws.specs.SourceBlocks.{SourceBlock, unit_blocks, innermost}

-- what a block of a resolved unit is, and the block round it
abbrev pub in_unit : ResolvedBlock → ResolvedBlockKind × Option ℕ
in_unit b = (b.kind, b.outer)

-- the same of a block of a tree
abbrev pub in_tree : SourceBlock → ResolvedBlockKind × Option ℕ
in_tree b = (b.kind, innermost b.around)

-- each block has the kind, and stands in the block, that the tree gives it
abbrev pub BlocksAreOfTree : ResolvedUnit → Type 0
BlocksAreOfTree r = map in_unit r.blocks ≡ map in_tree (unit_blocks r.tree)
