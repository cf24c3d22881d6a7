-- The blocks of a resolved unit are those of its tree.
use Rattle.std.specs.Prelude.{◌≡◌, map, length}
use Rattle.pli_base.specs.Statements.{ExternalProcedure}
use Rattle.pli_declare.specs.ResolvedUnits.{ResolvedBlock, resolved_unit_of}
use Rattle.pli_declare.specs.TreeBlocks.{TreeBlock, unit_blocks}

-- a block, as a walk over the tree sees it
abbrev pub in_tree : ResolvedBlock → TreeBlock
in_tree b = record {
  kind = b.kind;
  outer = b.outer;
  statement = b.statement;
  parameters = length b.parameters;
}

-- blocks are numbered in the order in which they begin in the text, and each stands in the block round it
abbrev pub BlocksAreOfTheTree : Type 0
BlocksAreOfTheTree = (u : ExternalProcedure) → map in_tree (resolved_unit_of u).blocks ≡ unit_blocks u
