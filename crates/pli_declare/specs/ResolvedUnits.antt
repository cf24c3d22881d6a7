-- The resolved unit, as the later passes see it: the tree, with what its blocks declare and what its names
-- mean.
use Rattle.std.specs.Prelude.{ℕ, ◌+◌, Option, Some, None, option_map, List, [], ◌∷◌, ◌++◌, map, length}
use Rattle.std.specs.Prelude.{get_or, slice_get, option_and_then}
use Rattle.std.specs.List.{flat_map}
use Rattle.pli_base.specs.Name.{Name}
use Rattle.pli_base.specs.Statements.{ExternalProcedure}
use Rattle.pli_base.specs.declared.syntax.Identifier.{Identifier}
use Rattle.pli_declare_outline.specs.Outlines.{Mark, Used, PlacedMark, outline_of}
use Rattle.pli_declare.specs.Completed.{OfBuiltIn}
use Rattle.pli_declare.specs.Tables.{inner_marks}
use Rattle.pli_declare.specs.Declarations.{Declaration, DeclaredKind, OfItem, OfProcedure}
use Rattle.pli_declare.specs.Resolved as declare
use Rattle.pli_declare.specs.Resolved.{resolved_of}
use Rattle.pli_declare.specs.declared.block.Target.{Target}
use Rattle.pli_declare.specs.declared.block.Target.TheVariants.{Name as AName, Function as AFunction}
use Rattle.pli_declare.specs.BuiltIns.{function_named}
use Rattle.pli_declare.specs.BlockNumbers.{block_regions, block_numbers}
use Rattle.pli_declare_outline.specs.StatementPlaces.{unit_starts, unit_places}
use Rattle.pli_declare.specs.Symbols.{Symbol, SymbolFacts, found_in, block_under, number_declared, symbols_of}
use Rattle.pli_declare.specs.declared.block_numbers.BlockRegion.{BlockRegion}
use Rattle.pli_declare.specs.declared.block_numbers.ResolvedBlockKind.{ResolvedBlockKind}
use Rattle.pli_declare.specs.declared.built_in.BuiltInFunction.{BuiltInFunction}
use Rattle.pli_declare_outline.specs.declared.statement_places.StatementPlace.{StatementPlace}
use Rattle.pli_declare.specs.declared.symbol.NameMeaning.{NameMeaning}
use Rattle.pli_declare.specs.declared.symbol.NameMeaning.TheVariants as meanings
use Rattle.pli_declare.specs.declared.symbol.SymbolKey.{SymbolKey}

-- a block: the one round it; its PROCEDURE, BEGIN or ON; the symbol of a procedure's name; the numbers of its
-- parameters among its symbols, each under its slot; what it declares, in the order of the text, its groups
-- and ON-units included
pub record ResolvedBlock : Type 0 where
  pub kind : ResolvedBlockKind
  pub outer : Option ℕ
  pub statement : ℕ
  pub name : Option SymbolKey
  pub parameters : List ℕ
  pub symbols : List Symbol

-- a unit: its tree; its blocks, each under its number; the outermost block, whose number is that after the
-- last of them, and which declares the unit's own name; what the name at a token means, where it is used; the
-- block in which the statement of a number stands
pub record ResolvedUnit : Type 0 where
  pub tree : ExternalProcedure
  pub blocks : List ResolvedBlock
  pub outermost : List Symbol
  pub meaning : (at : ℕ) → Option NameMeaning
  pub statement_block : (statement : ℕ) → Option ℕ

-- what the name at a token means
abbrev pub meaning_at : ResolvedUnit → (at : ℕ) → Option NameMeaning
meaning_at r at = r.meaning at

-- the symbols of each block, and of the outermost one
abbrev pub all_symbols : ResolvedUnit → List (List Symbol)
all_symbols r = map (λ b. b.symbols) r.blocks ++ r.outermost ∷ []

-- the symbol of this number in the block of this number
abbrev pub symbol_at : ResolvedUnit → SymbolKey → Option Symbol
symbol_at r key = slice_get (get_or (all_symbols r) key.block []) key.number

-- the block in which a statement stands
abbrev pub block_of_statement : ResolvedUnit → (statement : ℕ) → Option ℕ
block_of_statement r statement = r.statement_block statement

-- look-ups

-- the statements of labels, by the labels' tokens
abbrev pub label_statement : StatementPlace → List (ℕ × ℕ)
label_statement p = labelled p.label
  where
    labelled : Option Identifier → List (ℕ × ℕ)
    labelled None = []
    labelled (Some label) = (label.at, p.number) ∷ []

-- the built-in function that a mark names, with the token
abbrev pub function_at : Identifier → Option BuiltInFunction → List (ℕ × BuiltInFunction)
function_at i None = []
function_at i (Some function) = (i.at, function) ∷ []

-- a reference of one name may name one; nothing else does
abbrev pub functions_at : Mark → List (ℕ × BuiltInFunction)
functions_at (Used (i ∷ [])) = function_at i (function_named i.name)
functions_at mark = []

-- the built-in functions that marks name
abbrev pub functions_in : List PlacedMark → List (ℕ × BuiltInFunction)
functions_in ps = flat_map (λ p. functions_at p.mark) ps

-- a procedure's region, with the symbol of its name
abbrev pub procedure_at : SymbolKey → DeclaredKind → List (ℕ × SymbolKey)
procedure_at key (OfProcedure returned region) = (region, key) ∷ []
procedure_at key other = []

-- the procedures among names of a block, from this number on
abbrev pub procedures_from : (block number : ℕ) → List Declaration → List (ℕ × SymbolKey)
procedures_from block number [] = []
procedures_from block number (d ∷ ds) =
    procedure_at (record { block = block; number = number }) d.kind ++ procedures_from block (number + 1) ds

-- the procedures that a region declares
abbrev pub block_procedures : (numbers : List ℕ) → (region : ℕ) → declare.BlockDeclarations
    → List (ℕ × SymbolKey)
block_procedures numbers region b = procedures_from (get_or numbers region 0) 0 b.declarations

-- the procedures that regions declare, from the region of this number on
abbrev pub procedures_of : (numbers : List ℕ) → (region : ℕ) → List declare.BlockDeclarations
    → List (ℕ × SymbolKey)
procedures_of numbers region [] = []
procedures_of numbers region (b ∷ bs) =
    block_procedures numbers region b ++ procedures_of numbers (region + 1) bs

-- a block that declares nothing
abbrev pub no_block : declare.BlockDeclarations
no_block = record { parameters = []; declarations = [] }

-- what a region declares, or the outermost block
abbrev pub declared_by : declare.Resolved → (region : Option ℕ) → List Declaration
declared_by r None = r.outermost
declared_by r (Some region) = (get_or r.blocks region no_block).declarations

-- what a symbol means where its name is used: the symbol, but a name that is declared BUILTIN means the
-- built-in function
abbrev pub kind_meaning : SymbolKey → (name : Name) → DeclaredKind → Option NameMeaning
kind_meaning key name (OfItem OfBuiltIn description) = option_map meanings.BuiltIn (function_named name)
kind_meaning key name other = Some (meanings.Symbol key)

-- the same, of a declaration that may not be there
abbrev pub declared_meaning : SymbolKey → Option Declaration → Option NameMeaning
declared_meaning key None = None
declared_meaning key (Some d) = kind_meaning key d.identifier.name d.kind

-- of a tree

-- for each region of a unit the number of its block
abbrev pub numbers_of : ExternalProcedure → List ℕ
numbers_of u = block_numbers (resolved_of u).regions

-- the regions of a unit that are blocks
abbrev pub block_regions_of : ExternalProcedure → List BlockRegion
block_regions_of u = block_regions (resolved_of u).regions

-- the number of the outermost block
abbrev pub outermost_number : ExternalProcedure → ℕ
outermost_number u = length (block_regions_of u)

-- the procedures of a unit, by their regions, with the symbols of their names
abbrev pub procedures_in : ExternalProcedure → List (ℕ × SymbolKey)
procedures_in u =
    procedures_from (outermost_number u) 0 (resolved_of u).outermost
    ++ procedures_of (numbers_of u) 0 (resolved_of u).blocks

-- what its symbols say beside what is declared
abbrev pub facts_of : ExternalProcedure → SymbolFacts
facts_of u = record {
  numbers = numbers_of u;
  outermost = outermost_number u;
  areas = (resolved_of u).areas;
  locators = (resolved_of u).locators;
  labels = flat_map label_statement (unit_places u);
}

-- what a region of a unit declares
abbrev pub region_block : ExternalProcedure → (region : ℕ) → declare.BlockDeclarations
region_block u region = get_or (resolved_of u).blocks region no_block

-- a block of a unit
abbrev pub block_of : ExternalProcedure → BlockRegion → ResolvedBlock
block_of u b =
    let declared = region_block u b.region in
    record {
      kind = b.kind;
      outer = option_map (λ outer. get_or (numbers_of u) outer 0) b.outer;
      statement = get_or (unit_starts u) b.region 0;
      name = found_in (procedures_in u) b.region;
      parameters = map (number_declared declared.declarations) declared.parameters;
      symbols = symbols_of (facts_of u) declared.parameters declared.declarations;
    }

-- what a target means: a symbol, or a built-in function, declared or not
abbrev pub target_meaning : ExternalProcedure → (function : Option BuiltInFunction) → Target
    → Option NameMeaning
target_meaning u function AFunction = option_map meanings.BuiltIn function
target_meaning u function (AName region number) =
    declared_meaning
    (record { block = block_under (numbers_of u) (outermost_number u) region; number = number })
    (slice_get (declared_by (resolved_of u) region) number)

-- what the name at a token means
abbrev pub meaning_of : ExternalProcedure → (at : ℕ) → Option NameMeaning
meaning_of u at =
    option_and_then (target_meaning u (found_in (functions_in (inner_marks (outline_of u).marks)) at))
    (declare.meaning_at (resolved_of u).uses at)

-- the block in which the statement of this number stands
abbrev pub statement_block_of : ExternalProcedure → (statement : ℕ) → Option ℕ
statement_block_of u statement =
    option_map (λ region. get_or (numbers_of u) region 0)
    (found_in (map (λ p. (p.number, p.region)) (unit_places u)) statement)

-- the resolved unit of a tree whose declarations have no faults
abbrev pub resolved_unit_of : ExternalProcedure → ResolvedUnit
resolved_unit_of u = record {
  tree = u;
  blocks = map (block_of u) (block_regions_of u);
  outermost = symbols_of (facts_of u) [] (resolved_of u).outermost;
  meaning = meaning_of u;
  statement_block = statement_block_of u;
}
