-- What areas, arrays and structures of the program say.
use Rattle.std.proofs.Common.{◌≡◌, ℕ, Vec, ap, sym, ◌∙◌}
use Rattle.std.specs.Global.{Global, Box}
use Rattle.pli_map.specs.Description.{Description, Array, Structure, area}
use Rattle.pli_map.specs.declared.description.Bounds.{Bounds}
use Rattle.pli_map.specs.declared.description.Description as program
use Rattle.pli_map.specs.declared.description.Description.TheVariants as made
use Rattle.pli_map.specs.declared.description.Description.TheFolds as folds
use Rattle.pli_map.specs.views.DescriptionView.{description_view, level_view, members_view}

pub structure_view : (d : program.Description) (members : Vec program.Description Global) → d ≡ made.Structure members
    → description_view d ≡ Structure (members_view members.items)
structure_view d members e =
    ap description_view (e ∙ sym (made.rolls-Structure members)) ∙ folds.fold-roll-Description Description level_view (program.Description-F.Structure members)

pub array_view : (d : program.Description) (bounds : Vec Bounds Global) (element : Box program.Description) → d ≡ made.Array bounds element
    → description_view d ≡ Array bounds.items (description_view element.value)
array_view d bounds element e =
    ap description_view (e ∙ sym (made.rolls-Array bounds element)) ∙ folds.fold-roll-Description Description level_view (program.Description-F.Array bounds element)

pub area_view : (d : program.Description) (bytes : ℕ) → d ≡ made.Area bytes → description_view d ≡ area bytes
area_view d bytes e =
    ap description_view (e ∙ sym (made.rolls-Area bytes)) ∙ folds.fold-roll-Description Description level_view (program.Description-F.Area bytes)
