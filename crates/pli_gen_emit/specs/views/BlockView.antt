-- What the blocks of a unit are, apart from where they lie in memory.
use Rattle.std.specs.Prelude.{List, map}
use Rattle.pli_type_tree.specs.views.TypedView.{head_view, statements_view}
use Rattle.pli_code.specs.views.CodeView.{kind_view}
use Rattle.pli_gen_emit.specs.TreeTranslation.{BlockTree}
use Rattle.pli_gen_emit.specs.declared.block.BlockSource.{BlockSource}

-- a block with what it executes
abbrev pub block_tree : BlockSource → BlockTree
block_tree b = record {
  kind = kind_view b.kind;
  parent = b.parent;
  parameters = b.parameters;
  head = head_view b.head.now;
  function_end = b.function_end;
  statements = statements_view b.statements.now;
}

-- the blocks of a unit
abbrev pub block_trees : List BlockSource → List BlockTree
block_trees bs = map block_tree bs
