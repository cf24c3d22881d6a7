-- The faults of the declarations of a unit; and, where there are none, what its blocks declare and what its
-- names mean.
use Rattle.std.specs.Prelude.{ℕ, nat_eq, Option, Some, None, option_map, option_and_then, is_none, ◌&&◌}
use Rattle.std.specs.Prelude.{List, [], ◌∷◌, ◌++◌, map, length, get_or, slice_get, filter_map, zip}
use Rattle.std.specs.List.{flat_map, enumerate_from, position_or_len, find}
use Rattle.std.specs.Option.{unwrap_or}
use Rattle.pli_base.specs.Name.{Name}
use Rattle.pli_base.specs.Words.{same_name}
use Rattle.pli_base.specs.Statements.{ExternalProcedure}
use Rattle.pli_declare_outline.specs.Outlines.{PlacedMark, Mark, Used}
use Rattle.pli_declare.specs.Completed.{OfVariable, OfEntry, OfBuiltIn}
use Rattle.pli_declare.specs.Tables.{inner_marks}
use Rattle.pli_declare.specs.Declarations.{Declaration, DeclaredKind, OfItem, OfLabel, OfProcedure}
use Rattle.pli_declare.specs.Resolved.{BlockDeclarations}
use Rattle.pli_declare.specs.declared.block.Use.{Use}
use Rattle.pli_declare.specs.declared.block.Target.{Target}
use Rattle.pli_declare.specs.declared.block.Target.TheVariants.{Name as AName, Function as AFunction}
use Rattle.pli_base.specs.declared.token.Fault.{Fault}
use Rattle.pli_map.specs.Description as described
use Rattle.pli_declare.specs.BuiltIns.{built_in_functions}
use Rattle.pli_declare.specs.ResolvedUnits.{ResolvedUnit, ResolvedBlock}
use Rattle.pli_declare.specs.Symbols.{Symbol, SymbolKind, Variable, OpenParameter, Member, Label, Procedure}
use Rattle.pli_declare.specs.Symbols.{Entry, BuiltIn, Way, ways_of, class_of}
use Rattle.pli_declare.specs.declared.block_numbers.BlockRegion.{BlockRegion}
use Rattle.pli_declare.specs.declared.built_in.BuiltInFunction.{BuiltInFunction}
use Rattle.pli_declare.specs.declared.symbol.NameMeaning.{NameMeaning}
use Rattle.pli_declare.specs.declared.symbol.NameMeaning.TheVariants as meanings
use Rattle.pli_declare.specs.declared.symbol.SymbolKey.{SymbolKey}
use Rattle.pli_declarations.specs.Blocks.{block_regions, block_numbers}
use Rattle.pli_declarations.specs.Faults.{outline_faults}
use Rattle.pli_declarations.specs.Names.{blocks_of, outermost_of, use_at, areas_at, locators_at, all_uses}
use Rattle.pli_declarations.specs.Tables.{last_where}
use Rattle.pli_declarations.specs.Walk.{statements_of, start_of, outline_of}

-- all faults of a unit's declarations and uses
unfoldable pub resolution_faults : ExternalProcedure → List Fault
resolution_faults u = let o = outline_of u in outline_faults o o.marks

-- what is under a number

-- the last value that stands under a number
abbrev pub last_under : {A : Type 0} → List (ℕ × A) → ℕ → Option A
last_under pairs n = option_map (λ p. p.1) (last_where (λ p. nat_eq p.0 n) pairs)

-- the meaning of a name by its token: that of the last use there
abbrev pub target_at : List Use → (at : ℕ) → Option Target
target_at uses at = option_map (λ x. x.target) (last_where (λ x. nat_eq x.at at) uses)

-- the built-in function of this name
abbrev pub function_named : Name → Option BuiltInFunction
function_named name = option_map (λ f. f.1) (find (λ f. same_name name f.0) built_in_functions)

-- what a unit declares

-- the number of the block of a region
abbrev pub block_number : ExternalProcedure → (region : ℕ) → ℕ
block_number u region = get_or (block_numbers (outline_of u).regions) region 0

-- that of the outermost block, which stands after the others
abbrev pub outermost_number : ExternalProcedure → ℕ
outermost_number u = length (block_regions (outline_of u).regions)

-- a symbol of the block of a region, or of the outermost block
abbrev pub key_in : ExternalProcedure → (region : Option ℕ) → (number : ℕ) → SymbolKey
key_in u region number =
    record { block = unwrap_or (option_map (block_number u) region) (outermost_number u); number = number }

-- the symbol that is meant
abbrev pub key_of : ExternalProcedure → Option Target → Option SymbolKey
key_of u (Some (AName region number)) = Some (key_in u region number)
key_of u other = None

-- what a region declares
abbrev pub block_at : ExternalProcedure → (region : ℕ) → BlockDeclarations
block_at u region = get_or (blocks_of (outline_of u)) region (record { parameters = []; declarations = [] })

-- what a region declares, or the outermost block
abbrev pub declared_by : ExternalProcedure → (region : Option ℕ) → List Declaration
declared_by u region =
    unwrap_or (option_map (λ region. (block_at u region).declarations) region) (outermost_of (outline_of u))

-- symbols

-- the area that OFFSET names in the declaration of the name at a token
abbrev pub area_of : ExternalProcedure → (at : ℕ) → Option SymbolKey
area_of u at = key_of u (target_at (all_uses areas_at (outline_of u)) at)

-- the locator that BASED names in the declaration of the name at a token
abbrev pub locator_of : ExternalProcedure → (at : ℕ) → Option SymbolKey
locator_of u at = key_of u (target_at (all_uses locators_at (outline_of u)) at)

-- the statement of a label, by the label's token
abbrev pub label_statement : ExternalProcedure → (at : ℕ) → Option ℕ
label_statement u at =
    last_under (filter_map (λ p. option_map (λ l. (l.at, p.number)) p.label) (statements_of u)) at

-- what a name is declared as, by its slot, if it is a parameter, and by the item that it is a member of; a
-- variable of its own has a description, but a parameter in which a `*` stands has a type
abbrev pub symbol_kind : ExternalProcedure → (slot : ℕ) → Way → (at : ℕ) → (owner : Option ℕ) → DeclaredKind
    → SymbolKind
symbol_kind u slot w at None (OfItem (OfVariable v) description) =
    unwrap_or (option_map (λ type. OpenParameter type slot (area_of u at)) v.taken)
    (Variable (unwrap_or description described.Pointer) (class_of v.storage slot (locator_of u at)) v.scope
    v.initial (area_of u at))
symbol_kind u slot w at (Some owner) (OfItem (OfVariable v) description) =
    Member w.root w.path v.initial (area_of u at)
symbol_kind u slot w at owner (OfItem (OfEntry parameters returned) description) =
    Entry parameters returned (area_of u at)
symbol_kind u slot w at owner (OfItem OfBuiltIn description) = BuiltIn
symbol_kind u slot w at owner (OfLabel region) = Label (unwrap_or (label_statement u at) 0)
symbol_kind u slot w at owner (OfProcedure returned region) =
    Procedure (block_number u region) returned (area_of u at)

-- a declared name, with what it is declared as
abbrev pub symbol_of : ExternalProcedure → (parameters : List Name) → Way → Declaration → Symbol
symbol_of u parameters w d =
    let slot = position_or_len (λ name. same_name name d.identifier.name) parameters in
    record { identifier = d.identifier; kind = symbol_kind u slot w d.identifier.at d.owner d.kind }

-- the symbols of a block
abbrev pub symbols_of : ExternalProcedure → (parameters : List Name) → List Declaration → List Symbol
symbols_of u parameters ds = map (λ p. symbol_of u parameters p.0 p.1) (zip (ways_of ds) ds)

-- blocks

-- a procedure's own region
abbrev pub region_entered : DeclaredKind → Option ℕ
region_entered (OfProcedure returned region) = Some region
region_entered other = None

-- the procedures that a block declares, by their regions, with the symbols of their names
abbrev pub procedures_in : (block : ℕ) → List Declaration → List (ℕ × SymbolKey)
procedures_in block ds =
    filter_map
    (λ p. option_map (λ region. (region, record { block = block; number = p.0 })) (region_entered p.1.kind))
    (enumerate_from 0 ds)

-- the procedures of a unit, the external one first
abbrev pub procedures_of : ExternalProcedure → List (ℕ × SymbolKey)
procedures_of u =
    procedures_in (outermost_number u) (outermost_of (outline_of u))
    ++ flat_map (λ p. procedures_in (block_number u p.0) p.1.declarations)
    (enumerate_from 0 (blocks_of (outline_of u)))

-- the number of the first of these names that belongs to no item and has this name, or how many they are
abbrev pub number_declared : List Declaration → Name → ℕ
number_declared ds name = position_or_len (λ d. is_none d.owner && same_name d.identifier.name name) ds

-- a block of a unit
abbrev pub block_of : ExternalProcedure → BlockRegion → ResolvedBlock
block_of u b =
    let declared = block_at u b.region in
    record {
      kind = b.kind;
      outer = option_map (block_number u) b.outer;
      statement = get_or (filter_map start_of (statements_of u)) b.region 0;
      name = last_under (procedures_of u) b.region;
      parameters = map (number_declared declared.declarations) declared.parameters;
      symbols = symbols_of u declared.parameters declared.declarations;
    }

-- meanings

-- the built-in function that a reference of one name may name, by its token
abbrev pub function_at : PlacedMark → Option (ℕ × BuiltInFunction)
function_at p = named p.mark
  where
    named : Mark → Option (ℕ × BuiltInFunction)
    named (Used (i ∷ [])) = option_map (λ function. (i.at, function)) (function_named i.name)
    named mark = None

-- what a symbol means where its name is used: the symbol, but a name that is declared BUILTIN means the
-- built-in function
abbrev pub kind_meaning : SymbolKey → Name → DeclaredKind → Option NameMeaning
kind_meaning key name (OfItem OfBuiltIn description) = option_map meanings.BuiltIn (function_named name)
kind_meaning key name other = Some (meanings.Symbol key)

-- what a target means: a symbol, or a built-in function, declared or not
abbrev pub target_meaning : ExternalProcedure → (function : Option BuiltInFunction) → Target
    → Option NameMeaning
target_meaning u function AFunction = option_map meanings.BuiltIn function
target_meaning u function (AName region number) =
    option_and_then (λ d. kind_meaning (key_in u region number) d.identifier.name d.kind)
    (slice_get (declared_by u region) number)

-- what the name at a token means
abbrev pub meaning_of : ExternalProcedure → (at : ℕ) → Option NameMeaning
meaning_of u at =
    let o = outline_of u in
    option_and_then (target_meaning u (last_under (filter_map function_at (inner_marks o.marks)) at))
    (target_at (filter_map (λ p. use_at o p.region p.mark) (inner_marks o.marks)) at)

-- the block in which the statement of this number stands
abbrev pub block_of_statement : ExternalProcedure → (statement : ℕ) → Option ℕ
block_of_statement u statement =
    option_map (λ p. block_number u p.region) (last_where (λ p. nat_eq p.number statement) (statements_of u))

-- the resolved unit of a tree whose declarations have no faults
abbrev pub resolved_unit_of : ExternalProcedure → ResolvedUnit
resolved_unit_of u = record {
  tree = u;
  blocks = map (block_of u) (block_regions (outline_of u).regions);
  outermost = symbols_of u [] (outermost_of (outline_of u));
  meaning = meaning_of u;
  statement_block = block_of_statement u;
}
