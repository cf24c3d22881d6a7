-- References to locator variables and members, as BASED names them.
use Rattle.std.specs.Prelude.{ℕ, Option, Some, None}
use Rattle.pli_map.specs.Description.{Description, Pointer, Offset}
use Rattle.pli_type_rules.specs.Names.{LocatorVariable, OfPointer, OfOffset}
use Rattle.pli_type_rules.specs.declared.beginning.Beginning.{Beginning}
use Rattle.pli_type_tree.specs.TypedTree.{Root, TypedReference, Whole, Part, NoSubscript}

-- a variable that begins here, or a member without dimensions that stands so many bytes after its beginning,
-- of this description
abbrev pub locator_reference : Root → (offset : Option ℕ) → Description → TypedReference
locator_reference root None d = Whole root
locator_reference root (Some offset) d = Part root offset d NoSubscript

-- what a locator is that names an area, or none
abbrev pub described_by : (area : Option Beginning) → Description
described_by None = Pointer
described_by (Some area) = Offset

-- a reference to a POINTER, or to an OFFSET of this area
abbrev pub locating : (area : Option Beginning) → TypedReference → LocatorVariable
locating None reference = OfPointer reference
locating (Some area) reference = OfOffset reference area
