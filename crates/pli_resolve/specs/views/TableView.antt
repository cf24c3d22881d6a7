-- What is found once for each block, apart from where it lies in memory.
use Rattle.std.specs.Prelude.{ℕ, Option, Some, None, List, [], map}
use Rattle.pli_declare.specs.Resolved as declare
use Rattle.pli_declare.specs.Symbols as plain
use Rattle.pli_declare.specs.Symbols.{ways_of, number_declared}
use Rattle.pli_resolve.specs.declared.tables.BlockTable.{BlockTable}
use Rattle.pli_resolve.specs.declared.ways.Way.{Way}

-- how a name stands in its variable
abbrev pub way_view : Way → plain.Way
way_view w = record { root = w.root; path = w.path.items }

-- the ways of what a region declares, and the numbers of its parameters
pub record TableParts : Type 0 where
  pub ways : List plain.Way
  pub parameters : List ℕ

-- what is kept of a block
abbrev pub block_table_view : BlockTable → TableParts
block_table_view t = record { ways = map way_view t.ways.items; parameters = t.parameters.items }

-- what is found for a block
abbrev pub block_table_of : declare.BlockDeclarations → TableParts
block_table_of b =
    record {
      ways = ways_of b.declarations;
      parameters = map (number_declared b.declarations) b.parameters;
    }

-- the parameters of a table that may not be there
abbrev pub parameters_in : Option TableParts → List ℕ
parameters_in None = []
parameters_in (Some t) = t.parameters

-- the ways of a table that may not be there
abbrev pub ways_in : Option TableParts → List plain.Way
ways_in None = []
ways_in (Some t) = t.ways
