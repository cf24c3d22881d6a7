-- What arrays and structures of the program say.
use Rattle.std.proofs.Common.{◌≡◌, ◌<◌, Bool, true, false, length, Vec, ap, sym, ◌∙◌, arith}
use Rattle.std.specs.Global.{Global, Box}
use Rattle.std.specs.Bool.{◌==◌}
use Rattle.std.specs.Vec.{vec_len}
use Rattle.std.proofs.lemmas.Bool.{eqb-true, eqb-false}
use Rattle.pli_map.specs.Description.{Description, Array, Structure}
use Rattle.pli_map.specs.declared.description.Bounds.{Bounds}
use Rattle.pli_map.specs.declared.description.Description as program
use Rattle.pli_map.specs.declared.description.Description.TheVariants as made
use Rattle.pli_map.specs.declared.description.Description.TheFolds as folds
use Rattle.pli_map.specs.views.DescriptionView as view

pub structure_view : (d : program.Description) (v : Vec program.Description Global) → d ≡ made.Structure v
    → view.description_view d ≡ Structure (view.members_view v.items)
structure_view d v e = ap view.description_view (e ∙ sym (made.rolls-Structure v))
    ∙ folds.fold-roll-Description Description view.level_view (program.Description-F.Structure v)

pub array_view : (d : program.Description) (bounds : Vec Bounds Global) (element : Box program.Description)
    → d ≡ made.Array bounds element
    → view.description_view d ≡ Array bounds.items (view.description_view element.value)
array_view d bounds element e = ap view.description_view (e ∙ sym (made.rolls-Array bounds element))
    ∙ folds.fold-roll-Description Description view.level_view (program.Description-F.Array bounds element)

-- whether a vector has items
pub some_items : {A : Type 0} (v : Vec A Global) (b : Bool) → b ≡ (vec_len v == 0) → b ≡ false → 0 < length v.items
some_items v b is e = omega (arith, v.ok.0, eqb-false (vec_len v) 0 (sym is ∙ e))

pub no_items : {A : Type 0} (v : Vec A Global) (b : Bool) → b ≡ (vec_len v == 0) → b ≡ true → length v.items ≡ 0
no_items v b is e = omega (arith, v.ok.0, eqb-true (vec_len v) 0 (sym is ∙ e))
