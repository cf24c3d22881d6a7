-- A member of a structure is a part of a variable of its block.
use Rattle.std.specs.Prelude.{◌≡◌, ℕ, zero, suc, Option, Some, None, option_and_then, List, [], ◌∷◌}
use Rattle.std.specs.Prelude.{get_or, slice_get}
use Rattle.pli_base.specs.Statements.{ExternalProcedure}
use Rattle.pli_base.specs.declared.declaration.InitialValue.{InitialValue}
use Rattle.pli_map.specs.Description.{Description, Array, Structure, Members, NoMembers, MemberThen}
use Rattle.pli_declare.specs.Resolution.{parameters_of, resolution_faults}
use Rattle.pli_declare.specs.declared.completed.ScopeAttribute.{ScopeAttribute}
use Rattle.pli_declare_outline.specs.Outlines.{outline_of}
use Rattle.pli_declare.specs.Tables.{no_entry, entries_in}
use Rattle.pli_declare.specs.Descriptions.{description_of}
use Rattle.pli_declare.specs.ResolvedUnits.{resolved_unit_of, symbol_at, block_regions_of}
use Rattle.pli_declare.specs.Symbols.{Symbol, Variable, Member}
use Rattle.pli_declare.specs.declared.block_numbers.BlockRegion.{BlockRegion}
use Rattle.pli_declare.specs.declared.symbol.StorageClass.{StorageClass}
use Rattle.pli_declare.specs.declared.symbol.SymbolKey.{SymbolKey}

-- the member of this number among the members of a structure
abbrev pub member_at : Members → (number : ℕ) → Option Description
member_at NoMembers number = None
member_at (MemberThen d ds) zero = Some d
member_at (MemberThen d ds) (suc number) = member_at ds number

-- the member of this number, in a structure or in each element of an array of structures
abbrev pub member_of : Description → (number : ℕ) → Option Description
member_of (Structure members) number = member_at members number
member_of (Array bounds element) number = member_of element number
member_of other number = None

-- the part at the end of a path
abbrev pub part_on : Description → (path : List ℕ) → Option Description
part_on d [] = Some d
part_on d (number ∷ path) = option_and_then (λ member. part_on member path) (member_of d number)

-- the root is a variable of the same block; the path leads from it to a part; and what the block declares
-- under the member's own number has the member's name, and is described as that part
pub record IsPart (u : ExternalProcedure) (key : SymbolKey) (s : Symbol) (root : ℕ) (path : List ℕ) : Type 0
  where
    pub symbol : Symbol
    pub description : Description
    pub class : StorageClass
    pub scope : ScopeAttribute
    pub initial : List InitialValue
    pub area : Option SymbolKey
    pub there : symbol_at (resolved_unit_of u) (record { block = key.block; number = root }) ≡ Some symbol
    pub is_variable : symbol.kind ≡ Variable description class scope initial area
    pub block : BlockRegion
    pub stands : slice_get (block_regions_of u) key.block ≡ Some block
    pub part : Description
    pub leads : part_on description path ≡ Some part
    pub named : (get_or (entries_in (outline_of u) block.region) key.number no_entry).identifier
        ≡ s.identifier
    pub described : description_of (entries_in (outline_of u) block.region)
        (parameters_of (outline_of u) block.region) key.number ≡ Some part

-- each symbol that is a member is such a part, by its root and its path
abbrev pub MembersAreParts : Type 0
MembersAreParts = (u : ExternalProcedure) → resolution_faults u ≡ []
    → (key : SymbolKey) (s : Symbol) (root : ℕ) (path : List ℕ) (initial : List InitialValue)
    (area : Option SymbolKey) → symbol_at (resolved_unit_of u) key ≡ Some s
    → s.kind ≡ Member root path initial area → IsPart u key s root path
