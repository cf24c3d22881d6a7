-- What BASED and OFFSET name: an unsubscripted locator that is not based, and an unsubscripted area.
use Rattle.std.specs.Prelude.{◌≡◌, ◌⊎◌, ℕ, Option, Some, None, option_and_then, List, [], ◌∷◌, get_or}
use Rattle.std.specs.Prelude.{slice_get}
use Rattle.std.specs.List.{flat_map}
use Rattle.pli_base.specs.Name.{Name}
use Rattle.pli_base.specs.Statements.{ExternalProcedure}
use Rattle.pli_base.specs.declared.declaration.InitialValue.{InitialValue}
use Rattle.pli_map.specs.Description.{Description, Pointer, Offset, Area, Structure}
use Rattle.pli_declare.specs.Resolution.{resolution_faults}
use Rattle.pli_declare.specs.AttributeNames.{plain_of, simple_of, area_in, locator_in}
use Rattle.pli_declare.specs.declared.completed.ScopeAttribute.{ScopeAttribute}
use Rattle.pli_declare_outline.specs.Outlines.{Outline, outline_of}
use Rattle.pli_declare.specs.Tables.{Entity, AsItem, AsLabel, AsProcedure, Entry, no_entry}
use Rattle.pli_declare.specs.Tables.{entries_in, unit_entries}
use Rattle.pli_declare.specs.Declarations.{returned_by}
use Rattle.pli_declare.specs.ResolvedUnits.{ResolvedUnit, resolved_unit_of, symbol_at, block_regions_of}
use Rattle.pli_declare.specs.Symbols.{Symbol, SymbolKind, Variable, OpenParameter, Member, Label, Procedure}
use Rattle.pli_declare.specs.Symbols.{BuiltIn}
use Rattle.pli_declare.specs.Symbols as symbols
use Rattle.pli_resolve.specs.laws.MemberLaws.{member_at}
use Rattle.pli_declare.specs.declared.block_numbers.BlockRegion.{BlockRegion}
use Rattle.pli_declare.specs.declared.symbol.StorageClass.{StorageClass}
use Rattle.pli_declare.specs.declared.symbol.StorageClass.TheVariants as classes
use Rattle.pli_declare.specs.declared.symbol.SymbolKey.{SymbolKey}

-- the member of this number of a structure: an array has none without subscripts
abbrev pub plain_member : Description → (number : ℕ) → Option Description
plain_member (Structure members) number = member_at members number
plain_member other number = None

-- the part at the end of a path, where no subscripts lead to it
abbrev pub plain_part : Description → (path : List ℕ) → Option Description
plain_part d [] = Some d
plain_part d (number ∷ path) = option_and_then (λ member. plain_part member path) (plain_member d number)

-- a variable of its own, of this class
pub record IsVariable (r : ResolvedUnit) (key : SymbolKey) (class : StorageClass) (d : Description) : Type 0
  where
    pub symbol : Symbol
    pub scope : ScopeAttribute
    pub initial : List InitialValue
    pub area : Option SymbolKey
    pub there : symbol_at r key ≡ Some symbol
    pub is_variable : symbol.kind ≡ Variable d class scope initial area

-- a member, unsubscripted, of a variable of this class
pub record IsMember (r : ResolvedUnit) (key : SymbolKey) (class : StorageClass) (part : Description) : Type 0
  where
    pub symbol : Symbol
    pub root : ℕ
    pub path : List ℕ
    pub initial : List InitialValue
    pub area : Option SymbolKey
    pub whole : Description
    pub there : symbol_at r key ≡ Some symbol
    pub is_member : symbol.kind ≡ Member root path initial area
    pub of : IsVariable r (record { block = key.block; number = root }) class whole
    pub leads : plain_part whole path ≡ Some part

-- a pointer or an offset
abbrev pub IsLocating : Description → Type 0
IsLocating Pointer = Unit {0}
IsLocating Offset = Unit {0}
IsLocating other = ⊥

-- the class is not BASED
abbrev pub IsNotBased : StorageClass → Type 0
IsNotBased (classes.Based locator) = ⊥
IsNotBased other = Unit {0}

-- an unsubscripted locator that is not based
pub record IsLocator (r : ResolvedUnit) (key : SymbolKey) : Type 0 where
  pub class : StorageClass
  pub description : Description
  pub unsubscripted : IsVariable r key class description ⊎ IsMember r key class description
  pub locates : IsLocating description
  pub not_based : IsNotBased class

-- an unsubscripted area, which is a variable of its own
pub record IsArea (r : ResolvedUnit) (key : SymbolKey) : Type 0 where
  pub class : StorageClass
  pub bytes : ℕ
  pub variable : IsVariable r key class (Area bytes)

-- the names in the BASED of a declaration
abbrev pub locator_names : Entity → List Name
locator_names (AsItem item is_bad) = locator_in (flat_map simple_of item.attributes)
locator_names (AsLabel region) = []
locator_names (AsProcedure heading region) = []

-- the name in its OFFSET, or in the OFFSET of its RETURNS
abbrev pub area_names : Entity → List Name
area_names (AsItem item is_bad) = area_in (flat_map simple_of item.attributes)
area_names (AsLabel region) = []
area_names (AsProcedure heading region) =
    area_in (flat_map plain_of (flat_map (λ attributes. attributes) (returned_by heading.options)))

-- where names stand something is meant, and what is meant fits
abbrev pub Means : (fits : SymbolKey → Type 0) → List Name → Option SymbolKey → Type 0
Means fits names (Some key) = fits key
Means fits [] None = Unit {0}
Means fits (n ∷ ns) None = ⊥

-- what BASED names, by the class that it makes
abbrev pub ClassNames : ResolvedUnit → List Name → StorageClass → Type 0
ClassNames r names (classes.Based locator) = Means (IsLocator r) names locator
ClassNames r names other = Unit {0}

-- what BASED and OFFSET name in the declaration of a symbol
abbrev pub KindNames : ResolvedUnit → Entity → SymbolKind → Type 0
KindNames r e (Variable description class scope initial area) =
    ClassNames r (locator_names e) class × Means (IsArea r) (area_names e) area
KindNames r e (OpenParameter type slot area) = Means (IsArea r) (area_names e) area
KindNames r e (Member root path initial area) = Means (IsArea r) (area_names e) area
KindNames r e (Label statement) = Unit {0}
KindNames r e (Procedure block returned area) = Means (IsArea r) (area_names e) area
KindNames r e (symbols.Entry parameters returned area) = Means (IsArea r) (area_names e) area
KindNames r e BuiltIn = Unit {0}

-- what a block declares, or the outermost one
abbrev pub declared_under : Outline → Option BlockRegion → List Entry
declared_under o None = unit_entries o.marks
declared_under o (Some b) = entries_in o b.region

-- what is declared under a key
abbrev pub entry_under : ExternalProcedure → SymbolKey → Entry
entry_under u key =
    get_or (declared_under (outline_of u) (slice_get (block_regions_of u) key.block)) key.number no_entry

-- in each symbol of a unit without faults the locator in BASED is one, and the area in OFFSET is one
abbrev pub LocatorsAndAreasAreNamed : Type 0
LocatorsAndAreasAreNamed = (u : ExternalProcedure) → resolution_faults u ≡ [] → (key : SymbolKey) (s : Symbol)
    → symbol_at (resolved_unit_of u) key ≡ Some s
    → KindNames (resolved_unit_of u) (entry_under u key).entity s.kind
