-- Where variables begin that are not BASED. An AREA is one of them, so an area is named by where it begins.
use Rattle.std.specs.Prelude.{Option, Some, None}
use Rattle.pli_map.specs.Description.{Area}
use Rattle.pli_map.specs.ParameterTypes.{ParameterType, Stated}
use Rattle.pli_type_rules.specs.declared.beginning.Beginning.{Beginning}
use Rattle.pli_type_rules.specs.declared.beginning.Beginning.TheVariants as beginnings
use Rattle.pli_type_tree.specs.TypedTree.{Root, InSlot, OfProgram, NewestOf, Located, TypedReference, Whole}

-- the root of references that begin there
abbrev pub root_at : Beginning → Root
root_at (beginnings.InSlot outward slot) = InSlot outward slot
root_at (beginnings.OfProgram number) = OfProgram number
root_at (beginnings.NewestOf number) = NewestOf number

-- where references of this root begin; those that a locator leads to begin nowhere
abbrev pub beginning_of : Root → Option Beginning
beginning_of (InSlot outward slot) = Some (beginnings.InSlot outward slot)
beginning_of (OfProgram number) = Some (beginnings.OfProgram number)
beginning_of (NewestOf number) = Some (beginnings.NewestOf number)
beginning_of (Located locator whole) = None

-- the variable that begins there, as a whole
abbrev pub whole_at : Beginning → TypedReference
whole_at beginning = Whole (root_at beginning)

-- where an area begins, if a reference to what is of this type is one to an area: that is a whole variable,
-- and none that a locator leads to
abbrev pub area_meant : TypedReference → ParameterType → Option Beginning
area_meant (Whole root) (Stated (Area bytes)) = beginning_of root
area_meant reference type = None
