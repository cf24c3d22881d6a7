-- The parts of a block's variables on ways from them, and the structures to which ways lead.
use Rattle.std.specs.Prelude.{◌≡◌, ℕ, ◌+◌, Option, Some, None, option_map, option_and_then, List, [], get_or}
use Rattle.pli_map.specs.Description.{Structure}
use Rattle.pli_map.specs.Parts.{PlacedPart}
use Rattle.pli_map.specs.views.DescriptionView.{description_view, members_view}
use Rattle.pli_type_rules.specs.References.{StridedPart, element_of, part_on}
use Rattle.pli_type_names.specs.OwnVariables.{OwnVariable}
use Rattle.pli_type_names.specs.declared.level.StructureLevel.{StructureLevel}
use Rattle.pli_type_names.specs.views.NameView.{part_view}

-- the part on a way from the variable that is the symbol of this number
abbrev pub part_in : List (Option OwnVariable) → (root : ℕ) → (path : List ℕ) → Option StridedPart
part_in variables root path =
    option_and_then (λ v. part_on (record { offset = 0; description = v.whole; strides = [] }) path)
    (get_or variables root None)

-- the way leads to a structure, or to an array of such, with these members
pub record IsLevel (variables : List (Option OwnVariable)) (l : StructureLevel) : Type 0 where
  pub element : option_map element_of (part_in variables l.root l.way.now) ≡ Some (part_view l.element)
  pub members : description_view l.element.description.now
      ≡ Structure (members_view l.passed.members.now.items)

-- a part of a structure that stands there in it
abbrev pub placed_in : StridedPart → PlacedPart → StridedPart
placed_in e m =
    record { offset = e.offset + m.offset; description = m.description; strides = e.strides }

-- the same structure, whichever of its members are passed
pub record SameStructure (k l : StructureLevel) : Type 0 where
  pub root : k.root ≡ l.root
  pub way : k.way.now ≡ l.way.now
  pub element : part_view k.element ≡ part_view l.element
  pub members : k.passed.members.now ≡ l.passed.members.now
