-- What a resolved unit keeps, and its blocks, apart from where they lie in memory.
use Rattle.std.specs.Prelude.{◌≡◌, ℕ, nat_eq, List, [], map, Result}
use Rattle.std.specs.Global.{Vec}
use Rattle.std.specs.List.{flat_map}
use Rattle.indexmap.specs.IndexMap.{get}
use Rattle.pli_base.specs.Statements.{ExternalProcedure}
use Rattle.pli_base.specs.declared.statement.Procedure.{Procedure}
use Rattle.pli_map.specs.Description as described
use Rattle.pli_map.specs.declared.description.Description.{Description}
use Rattle.pli_map.specs.views.DescriptionView.{description_view}
use Rattle.pli_declare_outline.specs.Outlines.{outline_of}
use Rattle.pli_declare_outline.specs.declared.region.Outline.{Outline}
use Rattle.pli_declare_outline.specs.views.OutlineView.{outline_view, starts_view}
use Rattle.pli_declare.specs.Tables.{inner_marks}
use Rattle.pli_declare.specs.Resolved.{resolved_of}
use Rattle.pli_base.specs.declared.failure.Failure.{Failure}
use Rattle.pli_base.specs.declared.token.Fault.{Fault}
use Rattle.pli_declare.specs.views.ResolvedView.{IsResolved}
use Rattle.pli_declare_outline.specs.StatementPlaces.{unit_starts, unit_places}
use Rattle.pli_declare.specs.Symbols as symbols
use Rattle.pli_declare.specs.Symbols.{found_in, ways_of}
use Rattle.pli_declare.specs.declared.symbol.Symbol.{Symbol}
use Rattle.pli_declare.specs.views.SymbolView.{symbol_view}
use Rattle.pli_declare.specs.ResolvedUnits as plain
use Rattle.pli_declare.specs.ResolvedUnits.{numbers_of, block_regions_of, functions_in, label_statement}
use Rattle.pli_declare.specs.ResolvedUnits.{all_symbols, procedures_in, resolved_unit_of}
use Rattle.pli_resolve.specs.views.TableView.{way_view, block_table_view, block_table_of}
use Rattle.pli_resolve.specs.declared.unit.ResolvedBlock.{ResolvedBlock}
use Rattle.pli_resolve.specs.declared.unit_tables.RegionNumbers.{RegionNumbers}
use Rattle.pli_resolve.specs.declared.unit_tables.UnitMaps.{UnitMaps}
use Rattle.pli_resolve.specs.declared.unit_tables.UnitTables.{UnitTables}

-- a block, apart from what it declares
abbrev pub resolved_block_view : ResolvedBlock → plain.ResolvedBlock
resolved_block_view b = record {
  kind = b.kind;
  outer = b.outer;
  statement = b.statement;
  name = b.name;
  parameters = b.parameters.now;
  symbols = [];
}

-- the same of a block as definitions have it
abbrev pub without_symbols : plain.ResolvedBlock → plain.ResolvedBlock
without_symbols b = record {
  kind = b.kind;
  outer = b.outer;
  statement = b.statement;
  name = b.name;
  parameters = b.parameters;
  symbols = [];
}

-- the blocks among the regions are those of the tree
pub record AreNumbersOf (t : RegionNumbers) (u : ExternalProcedure) : Type 0
  where
    pub numbers_are : t.numbers.items ≡ numbers_of u
    pub blocks_are : t.blocks.items ≡ block_regions_of u

-- what is found by tokens, statements and regions is what the tree says
pub record AreMapsOf (t : UnitMaps) (u : ExternalProcedure) : Type 0
  where
    pub functions_are : (at : ℕ) → get nat_eq t.callables.functions at
        ≡ found_in (functions_in (inner_marks (outline_of u).marks)) at
    pub statements_are : (n : ℕ) → get nat_eq t.statements.regions n
        ≡ found_in (map (λ p. (p.number, p.region)) (unit_places u)) n
    pub labels_are : (at : ℕ) → get nat_eq t.statements.labels at
        ≡ found_in (flat_map label_statement (unit_places u)) at
    pub procedures_are : (n : ℕ) → get nat_eq t.callables.procedures n
        ≡ found_in (procedures_in u) n

-- the outline that is kept is that of the tree
pub record IsOutlineOf (o : Outline) (u : ExternalProcedure) : Type 0
  where
    pub outline_is : outline_view o ≡ outline_of u
    pub starts_are : starts_view o.regions.items ≡ unit_starts u

-- what is found once for a unit is what its tree says
pub record AreTablesOf (t : UnitTables) (u : ExternalProcedure) : Type 0
  where
    pub regions_are : AreNumbersOf t.regions u
    pub tables_are : map block_table_view t.tables.items ≡ map block_table_of (resolved_of u).blocks
    pub ways_are : map way_view t.ways.items ≡ ways_of (resolved_of u).outermost
    pub maps_are : AreMapsOf t.maps u

-- what a resolved unit keeps
pub record IsUnitOf (u : ExternalProcedure) (outline : Outline) (tables : UnitTables)
    (undescribed : Description) : Type 0
  where
    pub is_outline : IsOutlineOf outline u
    pub are_tables : AreTablesOf tables u
    pub undescribed_is : description_view undescribed ≡ described.Pointer

-- rows of symbols
abbrev pub rows_view : List (Vec Symbol) → List (List symbols.Symbol)
rows_view rows = map (λ row. map symbol_view row.items) rows

-- they are the symbols of each block of this tree, and of the outermost one
abbrev pub AreSymbolsOf : List (Vec Symbol) → ExternalProcedure → Type 0
AreSymbolsOf rows u = rows_view rows ≡ all_symbols (resolved_unit_of u)

-- the resolved unit of this tree, where there are no faults; or all of them; memory may be refused
-- anywhere
abbrev pub IsResolvedUnit : Result Procedure (Failure (Vec Fault)) → ExternalProcedure → Type 0
IsResolvedUnit answer u = IsResolved answer u
