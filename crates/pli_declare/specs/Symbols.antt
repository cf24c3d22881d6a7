-- What the names of a block are declared as, as the later passes need it.
use Rattle.std.specs.Prelude.{ℕ, ◌+◌, nat_eq, Option, Some, None, List, [], ◌∷◌, ◌++◌}
use Rattle.std.specs.Prelude.{length, get_or, slice_set, if◌then◌else◌, ◌&&◌, is_none}
use Rattle.std.specs.Option.{unwrap_or}
use Rattle.pli_base.specs.Name.{Name}
use Rattle.pli_base.specs.Words.{same_name}
use Rattle.pli_base.specs.declared.declaration.InitialValue.{InitialValue}
use Rattle.pli_base.specs.declared.syntax.Identifier.{Identifier}
use Rattle.pli_map.specs.Description as described
use Rattle.pli_map.specs.Description.{Description}
use Rattle.pli_map.specs.ParameterTypes.{ParameterType}
use Rattle.pli_declare.specs.Completed.{OfVariable, OfEntry, OfBuiltIn}
use Rattle.pli_declare.specs.declared.completed.ScopeAttribute.{ScopeAttribute}
use Rattle.pli_declare.specs.declared.completed.DeclaredStorage.{DeclaredStorage}
use Rattle.pli_declare.specs.declared.completed.DeclaredStorage.TheVariants as storage
use Rattle.pli_declare.specs.Declarations.{Declaration, DeclaredKind, OfItem, OfLabel, OfProcedure}
use Rattle.pli_declare.specs.Resolved.{meaning_at}
use Rattle.pli_declare.specs.declared.block.Use.{Use}
use Rattle.pli_declare.specs.declared.block.Target.{Target}
use Rattle.pli_declare.specs.declared.block.Target.TheVariants.{Name as AName, Function as AFunction}
use Rattle.pli_declare.specs.declared.symbol.SymbolKey.{SymbolKey}
use Rattle.pli_declare.specs.declared.symbol.StorageClass.{StorageClass}
use Rattle.pli_declare.specs.declared.symbol.StorageClass.TheVariants as classes

-- a symbol: a variable of its own; a parameter in which a `*` stands, by its place in the list of its
-- procedure, with the area that OFFSET names; a member, by the number of its root in the same block and the
-- members on the way from it; a label, with its statement; a procedure, with its block, what it returns, and
-- the area that OFFSET in its RETURNS names; an external procedure, with that area too; a built-in function
pub data SymbolKind : Type 0 where
  Variable : (description : Description) (class : StorageClass) (scope : ScopeAttribute)
      (initial : List InitialValue)
      (area : Option SymbolKey) → SymbolKind
  OpenParameter : (type : ParameterType) (slot : ℕ) (area : Option SymbolKey) → SymbolKind
  Member : (root : ℕ) (path : List ℕ) (initial : List InitialValue) (area : Option SymbolKey) → SymbolKind
  Label : (statement : ℕ) → SymbolKind
  Procedure : (block : ℕ) (returned : Option Description) (area : Option SymbolKey) → SymbolKind
  Entry : (parameters : List ParameterType) (returned : Option Description) (area : Option SymbolKey)
      → SymbolKind
  BuiltIn : SymbolKind

-- a declared name
pub record Symbol : Type 0 where
  pub identifier : Identifier
  pub kind : SymbolKind

-- the last value that stands under a key, or else what was found before
abbrev pub found_after : {A : Type 0} → Option A → List (ℕ × A) → (key : ℕ) → Option A
found_after found [] key = found
found_after found (p ∷ ps) key = found_after (if nat_eq p.0 key then Some p.1 else found) ps key

-- the last value that stands under a key
abbrev pub found_in : {A : Type 0} → List (ℕ × A) → (key : ℕ) → Option A
found_in pairs key = found_after None pairs key

-- members

-- how a name stands in its variable: the number of the root in its block, and the members on the way from it,
-- each counted from 0 among the members of the one before
pub record Way : Type 0 where
  pub root : ℕ
  pub path : List ℕ

-- a way for a number that has none
abbrev pub no_way : Way
no_way = record { root = 0; path = [] }

-- the way of one more name, by those of the names before it and how many members each of these has so far
abbrev pub way_with : List Way → (counts : List ℕ) → (owner : Option ℕ) → Way
way_with ways counts None = record { root = length ways; path = [] }
way_with ways counts (Some owner) =
    record {
      root = (get_or ways owner no_way).root;
      path = (get_or ways owner no_way).path ++ get_or counts owner 0 ∷ [];
    }

-- one more member of its owner
abbrev pub counted : (counts : List ℕ) → (owner : Option ℕ) → List ℕ
counted counts None = counts
counted counts (Some owner) = slice_set counts owner (get_or counts owner 0 + 1)

-- the ways of further names, after those of the names before
abbrev pub ways_after : List Way → (counts : List ℕ) → List Declaration → List Way
ways_after ways counts [] = ways
ways_after ways counts (d ∷ ds) =
    ways_after (ways ++ way_with ways counts d.owner ∷ []) (counted counts d.owner ++ 0 ∷ []) ds

-- the ways of the names of a block
abbrev pub ways_of : List Declaration → List Way
ways_of declarations = ways_after [] [] declarations

-- parameters

-- the place of a name in a list, or its length
abbrev pub place_among : List Name → Name → ℕ
place_among [] name = 0
place_among (n ∷ ns) name = if same_name n name then 0 else 1 + place_among ns name

-- the number of the first of these names that belongs to no item and has this name, or how many they are
abbrev pub number_declared : List Declaration → Name → ℕ
number_declared [] name = 0
number_declared (d ∷ ds) name =
    if is_none d.owner && same_name d.identifier.name name then 0 else 1 + number_declared ds name

-- symbols

-- what symbols say beside what is declared: the block of each region, the outermost block's number, the names
-- in OFFSET and BASED, by the tokens of the declared names, and the statements of labels, by the labels'
-- tokens
pub record SymbolFacts : Type 0 where
  pub numbers : List ℕ
  pub outermost : ℕ
  pub areas : List Use
  pub locators : List Use
  pub labels : List (ℕ × ℕ)

-- the number of the block of a region
abbrev pub block_under : (numbers : List ℕ) → (outermost : ℕ) → (region : Option ℕ) → ℕ
block_under numbers outermost None = outermost
block_under numbers outermost (Some region) = get_or numbers region 0

-- the symbol that is meant
abbrev pub key_of : (numbers : List ℕ) → (outermost : ℕ) → Option Target → Option SymbolKey
key_of numbers outermost None = None
key_of numbers outermost (Some AFunction) = None
key_of numbers outermost (Some (AName region number)) =
    Some (record { block = block_under numbers outermost region; number = number })

-- the area that OFFSET names in the declaration of the name at a token
abbrev pub area_of : SymbolFacts → (at : ℕ) → Option SymbolKey
area_of f at = key_of f.numbers f.outermost (meaning_at f.areas at)

-- the locator that BASED names in the declaration of the name at a token
abbrev pub locator_of : SymbolFacts → (at : ℕ) → Option SymbolKey
locator_of f at = key_of f.numbers f.outermost (meaning_at f.locators at)

-- where generations come from: without a storage class of its own, from the argument
abbrev pub class_of : Option DeclaredStorage → (slot : ℕ) → (locator : Option SymbolKey) → StorageClass
class_of None slot locator = classes.Parameter slot
class_of (Some storage.Automatic) slot locator = classes.Automatic
class_of (Some storage.Static) slot locator = classes.Static
class_of (Some storage.Controlled) slot locator = classes.Controlled
class_of (Some storage.Based) slot locator = classes.Based locator

-- a variable of its own, or a parameter in which a `*` stands, which has a type in the place of a description
abbrev pub kind_with : Option ParameterType → (slot : ℕ) → (area : Option SymbolKey) → SymbolKind → SymbolKind
kind_with None slot area kind = kind
kind_with (Some type) slot area kind = OpenParameter type slot area

-- what a name is declared as, by the item that it is a member of; a variable of its own has a description
abbrev pub symbol_kind : SymbolFacts → (parameters : List Name) → Way → Identifier → (owner : Option ℕ)
    → DeclaredKind
    → SymbolKind
symbol_kind f parameters w i None (OfItem (OfVariable v) description) =
    kind_with v.taken (place_among parameters i.name) (area_of f i.at)
    (Variable (unwrap_or description described.Pointer)
    (class_of v.storage (place_among parameters i.name) (locator_of f i.at)) v.scope v.initial
    (area_of f i.at))
symbol_kind f parameters w i (Some owner) (OfItem (OfVariable v) description) =
    Member w.root w.path v.initial (area_of f i.at)
symbol_kind f parameters w i owner (OfItem (OfEntry described returned) description) =
    Entry described returned (area_of f i.at)
symbol_kind f parameters w i owner (OfItem OfBuiltIn description) = BuiltIn
symbol_kind f parameters w i owner (OfLabel region) = Label (unwrap_or (found_in f.labels i.at) 0)
symbol_kind f parameters w i owner (OfProcedure returned region) =
    Procedure (get_or f.numbers region 0) returned (area_of f i.at)

-- what a name is declared as, with the name
abbrev pub symbol_of : SymbolFacts → (parameters : List Name) → Way → Declaration → Symbol
symbol_of f parameters w d =
    record { identifier = d.identifier; kind = symbol_kind f parameters w d.identifier d.owner d.kind }

-- names with their ways
abbrev pub symbols_with : SymbolFacts → (parameters : List Name) → List Way → List Declaration → List Symbol
symbols_with f parameters ws [] = []
symbols_with f parameters [] (d ∷ ds) = []
symbols_with f parameters (w ∷ ws) (d ∷ ds) = symbol_of f parameters w d ∷ symbols_with f parameters ws ds

-- the symbols of a block
abbrev pub symbols_of : SymbolFacts → (parameters : List Name) → List Declaration → List Symbol
symbols_of f parameters declarations = symbols_with f parameters (ways_of declarations) declarations
