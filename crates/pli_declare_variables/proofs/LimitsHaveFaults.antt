-- An item that is not within the limits has one of A3 to A7.
use Rattle.std.proofs.Common.{◌≡◌, ℕ, ◌≤◌, Bool, true, false, not, ◌&&◌, ◌||◌, nat_le, Option, Some, None, List, [], ◌∷◌, length, map, refl, sym, ap, subst, ◌∙◌, inl, inr, arith}
use Rattle.std.specs.Option.{option_or}
use Rattle.std.specs.Cmp.{nat_cmp_is}
use Rattle.std.specs.Ordering.{nat_cmp}
use Rattle.std.specs.declared.cmp.Ordering.TheVariants.{Less, Equal, Greater}
use Rattle.std.proofs.lemmas.Bool.{cases_lt}
use Rattle.std.proofs.lemmas.Bool.Decides.{nat_tests}
use Rattle.std.proofs.Math.ListN.{get_or-eq_default}
use Rattle.pli_base.specs.Codes.{code_place}
use Rattle.pli_base.specs.Name.{Name}
use Rattle.pli_base.specs.declared.code.Code.{Code}
use Rattle.pli_base.specs.declared.code.Code.TheVariants.{AttributesConflict, AttributesMissing, BadPrecision, BadLength, BadBounds, BadInitial}
use Rattle.pli_base.specs.Declarations as tree
use Rattle.pli_base.specs.declared.declaration.WrittenBounds.{WrittenBounds}
use Rattle.pli_declare.specs.Agreement.{may_be_open, set_agrees, is_missing}
use Rattle.pli_declare.specs.Extents.{are_bad_bounds, are_bad_stars, is_array}
use Rattle.pli_declare.specs.Faults.{first_of, first_in_order, lesser, shape_fault, area_fault, own_fault, parameters_in, parameters_fault, returned_in, returned_fault, entry_fault, attributes_fault, item_fault}
use Rattle.pli_declare.specs.Initials.{values_in, is_bad_initial}
use Rattle.pli_declare.specs.Sets.{outermost, set_of, each_once}
use Rattle.pli_declare.specs.Types.{number_of, is_bad_precision, is_bad_length, is_bad_star}
use Rattle.pli_declare.specs.Types as types
use Rattle.pli_declare.specs.declared.place.ItemPlace.{ItemPlace}
use Rattle.pli_declare.proofs.ShapeLemmas.{shape_sound}
use Rattle.pli_declare.specs.Tables.{Entry, no_entry}
use Rattle.pli_declare.specs.Places.{item_in, item_of, no_item, own_code, place_in}
use Rattle.pli_declare.specs.Descriptions.{is_of_shape, own_codes, IsSoundItem, ShapesAreSound}
use Rattle.pli_declare_variables.proofs.NumberLemmas.{mapped_at}

first_five : (a b c d e : Bool)
    → is_of_shape (first_of ((a, AttributesConflict) ∷ (b, AttributesMissing) ∷ (c, BadPrecision) ∷ (d, BadLength) ∷ (e, BadBounds) ∷ [])) ≡ false
    → first_of ((a, AttributesConflict) ∷ (b, AttributesMissing) ∷ (c, BadPrecision) ∷ (d, BadLength) ∷ (e, BadBounds) ∷ []) ≡ None
first_five true b c d e h = cc
first_five false true c d e h = cc
first_five false false true d e h = cc
first_five false false false true e h = cc
first_five false false false false true h = cc
first_five false false false false false h = refl

shape_good : (p : ItemPlace) (dimensions : List WrittenBounds) (once : Bool) (s : ℕ) (n : Option ℕ) (star : Bool) → is_of_shape (shape_fault p dimensions once s n star) ≡ false
    → shape_fault p dimensions once s n star ≡ None
unfolding shape_fault
shape_good p dimensions once s n star h =
    first_five (not (once && set_agrees p (is_array dimensions) s)) (is_missing p s) (is_bad_precision s n) (is_bad_length s n || is_bad_star (may_be_open p) star s)
    (are_bad_bounds dimensions || are_bad_stars (may_be_open p) dimensions) h

or_good : (f g : Option Code) → is_of_shape (option_or f g) ≡ false → is_of_shape f ≡ false
or_good None g h = refl
or_good (Some c) g h = h

lower : (x y z : ℕ) → x ≤ y → nat_le y z ≡ true → nat_le x z ≡ true
lower x y z le h = grind (arith, nat_tests, h, le)

least_kept : (c d : Code) → is_of_shape (Some c) ≡ true → is_of_shape (Some (first_in_order (nat_cmp (code_place c) (code_place d)) c d)) ≡ true
least_kept c d h =
    elim (cases_lt (code_place d) (code_place c)) [
      | inl below ↦
          ap (λ o. is_of_shape (Some (first_in_order o c d))) (sym (nat_cmp_is (code_place c) (code_place d) Greater below))
          ∙ lower (code_place d) (code_place c) (code_place BadBounds) (omega arith) h
      | inr above ↦ elim (cases_lt (code_place c) (code_place d)) [
        | inl less ↦ ap (λ o. is_of_shape (Some (first_in_order o c d))) (sym (nat_cmp_is (code_place c) (code_place d) Less less)) ∙ h
        | inr more ↦ ap (λ o. is_of_shape (Some (first_in_order o c d))) (sym (nat_cmp_is (code_place c) (code_place d) Equal (omega arith))) ∙ h
      ]
    ]

lesser_kept : (f g : Option Code) → is_of_shape f ≡ true → is_of_shape (lesser f g) ≡ true
lesser_kept None g h = cc
lesser_kept (Some c) None h = h
lesser_kept (Some c) (Some d) h = least_kept c d h

lesser_good : (f g : Option Code) → is_of_shape (lesser f g) ≡ false → is_of_shape f ≡ false
lesser_good f g h = by (is_of_shape f) refl
  where
    by : (b : Bool) → is_of_shape f ≡ b → b ≡ false
    by false e = refl
    by true e = sym (lesser_kept f g e) ∙ h

own_good : (p : ItemPlace) (i : tree.Item) → is_of_shape (own_fault p i) ≡ false → IsSoundItem i
unfolding own_fault
own_good p i h =
    let attributes = map outermost i.attributes in
    let s = set_of attributes in
    let n = number_of attributes in
    let star = types.has_star attributes in
    let shape = shape_fault p i.dimensions (each_once 0 attributes) s n star in
    let others = option_or (first_of ((is_bad_initial p i.dimensions s n (values_in i.attributes), BadInitial) ∷ [])) (area_fault p i.dimensions s) in
    let sound = shape_sound p i.dimensions (each_once 0 attributes) s n star (shape_good p i.dimensions (each_once 0 attributes) s n star (or_good shape others h)) in
    record { bounds = sound.bounds; precision = sound.precision; length_of = sound.length_of }

attributes_good : (p : ItemPlace) (i : tree.Item) → is_of_shape (attributes_fault p i) ≡ false → IsSoundItem i
unfolding attributes_fault
attributes_good p i h =
    own_good p i (lesser_good (own_fault p i) (lesser (parameters_fault (parameters_in i.attributes)) (returned_fault (returned_in i.attributes))) h)

good : (p : ItemPlace) (i : tree.Item) → is_of_shape (item_fault p i) ≡ false → IsSoundItem i
unfolding item_fault
good p i h = attributes_good p i (or_good (attributes_fault p i) (entry_fault (parameters_in i.attributes)) h)

nothing_bad : IsSoundItem no_item
unfolding are_bad_bounds is_bad_precision is_bad_length
nothing_bad = record { bounds = refl; precision = refl; length_of = refl }

pub codes_sound : (entries : List Entry) (parameters : List Name) → ShapesAreSound entries (own_codes entries parameters)
codes_sound entries parameters n h =
    elim (cases_lt n (length entries)) [
      | inl lt ↦ good (place_in entries parameters n) (item_of entries n)
          (ap is_of_shape (sym (mapped_at (own_code entries parameters) (length entries) n None lt)) ∙ h)
      | inr le ↦ subst (λ (x : Entry). IsSoundItem (item_in x.entity)) (sym (get_or-eq_default entries no_entry le)) nothing_bad
    ]
