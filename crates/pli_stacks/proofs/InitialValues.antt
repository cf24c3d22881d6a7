-- Initial values, put one after another in the place of those with which their scalars begin: each may hold its own.
use Rattle.std.proofs.Common.{◌≡◌, true, List, [], ◌∷◌}
use Rattle.pli_bytes.specs.Contents.{scalars_at, with_value_on}
use Rattle.pli_bytes.proofs.Scalars.{descriptions, described}
use Rattle.pli_bytes.proofs.ValuesOn.{held_on_byte}
use Rattle.pli_map.specs.Parts.{PlacedPart}
use Rattle.pli_map.specs.Scalars.{scalars_of}
use Rattle.pli_map.specs.Values.{are_held, first_values}
use Rattle.pli_map.proofs.FirstHeld.{firsts_held}
use Rattle.pli_type_tree.specs.Templates.{InitialScalar, Template, with_initial, variable_of}
use Rattle.pli_value.specs.Value.{Value}

held_among : (ss : List PlacedPart) (is : List InitialScalar) (vs : List Value) → are_held (descriptions ss) vs ≡ true → are_held (descriptions ss) (with_initial ss is vs) ≡ true
held_among ss [] vs h = h
held_among ss (i ∷ is) vs h = held_among ss is (with_value_on i.offset i.value ss vs) (held_on_byte i.offset i.value ss vs h)

-- what a variable begins with
pub initial_held : (t : Template) → are_held (scalars_of t.description) (variable_of t).initial ≡ true
initial_held t =
    let d = t.description in
    rw (← described d) (held_among (scalars_at d) t.initial (first_values d) (rw (described d) (firsts_held d)))
