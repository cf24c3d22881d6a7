-- The laws of the field of descriptions and of types.
use Rattle.std.proofs.Common.{◌≡◌, ℕ, zero, suc, ◌%◌, nat_eq, Bool, true, false, List, [], ◌∷◌, ◌++◌, map, get_or, Some, None, Ok, refl, ap, subst, ◌∙◌, arith}
use Rattle.std.specs.Prelude.{int_le}
use Rattle.std.specs.List.{list_any}
use Rattle.std.proofs.lemmas.Bool.{and_parts}
use Rattle.pli_map.specs.declared.description.Bounds.{Bounds}
use Rattle.pli_map.specs.declared.parameter.StringForm.{StringForm}
use Rattle.pli_map.specs.declared.parameter.StringForm.TheVariants as forms
use Rattle.pli_map.specs.Description.{Description, FixedBinary, Character, Varying, Bit, Pointer, Offset}
use Rattle.pli_map.specs.Description.{Area, Array, Structure, Members, NoMembers, MemberThen}
use Rattle.pli_map.specs.ParameterTypes.{ParameterType, Stated, AnyString, AnyArray, ArrayOf, StructureOf}
use Rattle.pli_map.specs.ParameterTypes.{is_open, listed_types, structure_with, array_of, structure_of}
use Rattle.pli_map.specs.Description.{listed}
use Rattle.pli_map.specs.views.DescriptionView.{members_of}
use Rattle.pli_code.specs.Fields.{AreBytes, BothWays, Field, nothing, ◌⊗◌, form, unknown, opened_by, may_begin, u2, u4, count_of_one, from_to, checked}
use Rattle.pli_deck_write.specs.Descriptions.{string_length, area_size, bounds, dimensions, members, is_element_tag, is_element, element_of, form_if, any_string_tag, type_form, open_readers, type_readers, too_deep, description_within, description}
use Rattle.pli_code.specs.Instructions.{precision, bound, dimension_number}
use Rattle.pli_code.specs.Versions.{has_stars}
use Rattle.pli_code.specs.declared.version.Version.{Version}
use Rattle.pli_code.specs.declared.version.Version.TheVariants.{First, Second, Third}
use Rattle.pli_code.proofs.InstructionLaws.{precision_law, bound_law, dimension_law}
use Rattle.pli_code.proofs.FieldLaws.{IsField, Taken, Opens, opened_read, opened_again, both_true, count_law, u2_law, u4_law, nothing_law, checked_law, from_to_law, pair_law, shaped_law, list_law, both_ways}
use Rattle.pli_code.proofs.FormLaws.{AllRead, unknown_reads, made_reads, made_again, tagged_law}
use Rattle.pli_deck_write.specs.answers.StatedTypes.{descriptions_among}
use Rattle.pli_deck_write.proofs.TypeLemmas.{listed-types_of, types_of-listed, stated_all, stated_again, stated_mapped, none_stated}

pub length_law : IsField string_length
length_law = from_to_law 1 32767 u2 u2_law

pub area_law : IsField area_size
area_law = checked_law (λ n. nat_eq (n % 8) 0) (from_to 1 1000000 u4) (from_to_law 1 1000000 u4 u4_law)

bounds_law : IsField bounds
bounds_law =
    shaped_law (λ p. record { low = p.0; high = p.1 }) (λ b. (b.low, b.high)) (checked (λ p. int_le p.0 p.1) (bound ⊗ bound))
    (checked_law (λ p. int_le p.0 p.1) (bound ⊗ bound) (pair_law bound bound bound_law bound_law)) (λ p h. refl) (λ b h. refl)

dimensions_law : IsField dimensions
dimensions_law = list_law (from_to 1 8 count_of_one) bounds (from_to_law 1 8 count_of_one count_law) bounds_law

members_law : (inner : Field ParameterType) → IsField inner → IsField (members inner)
members_law inner it = list_law (from_to 1 65535 u2) inner (from_to_law 1 65535 u2 u2_law) it

listed-members_of : (ds : List Description) → listed (members_of ds) ≡ ds
listed-members_of [] = refl
listed-members_of (d ∷ ds) = ap (λ es. d ∷ es) (listed-members_of ds)

members_of-listed : (ds : Members) → members_of (listed ds) ≡ ds
members_of-listed NoMembers = refl
members_of-listed (MemberThen d ds) = ap (MemberThen d) (members_of-listed ds)

-- an array that is read has its form, whether its element is stated or not
array_form : (v : Version) (inner : Field ParameterType) (bs : List Bounds) (e : ParameterType) → type_form v inner (array_of bs e) ≡ form 8 (dimensions ⊗ inner) (bs, e)
array_form v inner bs (Stated d) = refl
array_form v inner bs other = refl

open_array : (bs : List Bounds) (e : ParameterType) → is_open e ≡ true → array_of bs e ≡ ArrayOf bs e
open_array bs (Stated d) h = absurd cc
open_array bs other h = refl

-- and so has a structure
structure_form : (v : Version) (inner : Field ParameterType) (ts : List ParameterType) → type_form v inner (structure_of ts) ≡ form 9 (members inner) ts
structure_form v inner ts = by_openness (list_any is_open ts) refl
  where
    by_openness : (b : Bool) → list_any is_open ts ≡ b → type_form v inner (structure_of ts) ≡ form 9 (members inner) ts
    by_openness true some =
        ap (λ o. type_form v inner (structure_with ts o)) (none_stated ts some)
        ∙ ap (λ us. form_if (list_any is_open us) (form 9 (members inner) us)) (listed-types_of ts)
        ∙ ap (λ b. form_if b (form 9 (members inner) ts)) some
    by_openness false none =
        ap (λ o. type_form v inner (structure_with ts o)) (stated_all ts none)
        ∙ ap (λ ds. form 9 (members inner) (map Stated ds)) (listed-members_of (descriptions_among ts))
        ∙ ap (form 9 (members inner)) (stated_again ts none)

-- ---- elements of arrays whose bounds are `*`

-- what begins as an element does is one
element_told : (v : Version) (n : ℕ) (t : ParameterType) (rest : List ℕ) → (description_within v n).fits t ≡ true
    → may_begin is_element_tag ((description_within v n).bytes_of t ++ rest) ≡ true → is_element t ≡ true
unfolding description_within
element_told v zero t rest h g = absurd cc
element_told v (suc n) (Stated (FixedBinary p)) rest h g = refl
element_told v (suc n) (Stated (Area k)) rest h g = g
element_told v (suc n) (Stated (Array bs e)) rest h g = g
element_told v (suc n) (Stated (Structure ds)) rest h g = g
element_told v (suc n) (Stated scalar) rest h g = refl
element_told v (suc n) (AnyString f) rest h g = refl
element_told v (suc n) (AnyArray k e) rest h g = g
element_told v (suc n) (ArrayOf bs e) rest h g = g
element_told v (suc n) (StructureOf ts) rest h g = g

-- and an element begins so
element_opens : (v : Version) (n : ℕ) (t : ParameterType) → (description_within v n).fits t ≡ true → is_element t ≡ true → Opens is_element_tag ((description_within v n).bytes_of t)
unfolding description_within
element_opens v zero t h g = absurd cc
element_opens v (suc n) (Stated (FixedBinary p)) h g = refl
element_opens v (suc n) (Stated (Area k)) h g = g
element_opens v (suc n) (Stated (Array bs e)) h g = g
element_opens v (suc n) (Stated (Structure ds)) h g = g
element_opens v (suc n) (Stated scalar) h g = refl
element_opens v (suc n) (AnyString forms.Character) h g = refl
element_opens v (suc n) (AnyString forms.Varying) h g = refl
element_opens v (suc n) (AnyString forms.Bit) h g = refl
element_opens v (suc n) (AnyArray k e) h g = g
element_opens v (suc n) (ArrayOf bs e) h g = g
element_opens v (suc n) (StructureOf ts) h g = g

element_takes : (v : Version) (n : ℕ) → IsField (description_within v n) → (bytes : List ℕ) (t : ParameterType) (rest : List ℕ) → AreBytes bytes
    → opened_by is_element_tag (description_within v n).read bytes ≡ Ok (t, rest) → Taken (element_of (description_within v n)) bytes t rest
element_takes v n it bytes t rest b e =
    let h = opened_read is_element_tag (description_within v n).read bytes (t, rest) e in
    let taken = it.takes bytes t rest b h.1 in
    let begun = subst (λ bs. may_begin is_element_tag bs ≡ true) taken.parts h.0 in
    record { parts = taken.parts; fitting = both_true _ _ taken.fitting (element_told v n t rest taken.fitting begun); rest_bytes = taken.rest_bytes }

element_again : (v : Version) (n : ℕ) → IsField (description_within v n) → (t : ParameterType) (rest : List ℕ) → (element_of (description_within v n)).fits t ≡ true
    → opened_by is_element_tag (description_within v n).read ((description_within v n).bytes_of t ++ rest) ≡ Ok (t, rest)
element_again v n it t rest h =
    let inner = description_within v n in
    let both = and_parts (inner.fits t) (is_element t) h in
    opened_again is_element_tag inner.read (inner.bytes_of t) rest (t, rest) (element_opens v n t both.0 both.1) (it.again t rest both.0)

element_law : (v : Version) (n : ℕ) → IsField (description_within v n) → IsField (element_of (description_within v n))
element_law v n it = record { takes = element_takes v n it; again = element_again v n it }

-- ---- types

open_forms_read : (v : Version) (inner : Field ParameterType) → IsField (element_of inner) → AllRead (type_form v inner) 10 (open_readers v inner)
open_forms_read First inner it = tt
open_forms_read Second inner it = tt
open_forms_read Third inner it =
    let f = type_form Third inner in (
      made_reads nothing nothing_law (λ _. AnyString forms.Character) f 10 (λ n. refl),
      (
        made_reads nothing nothing_law (λ _. AnyString forms.Varying) f 11 (λ n. refl),
        (
          made_reads nothing nothing_law (λ _. AnyString forms.Bit) f 12 (λ n. refl),
          (
            made_reads (dimension_number ⊗ element_of inner) (pair_law dimension_number (element_of inner) dimension_law it) (λ p. AnyArray p.0 p.1) f 13 (λ p. refl),
            tt,
          ),
        ),
      ),
    )

forms_read : (v : Version) (inner : Field ParameterType) → IsField inner → IsField (element_of inner) → AllRead (type_form v inner) 0 (type_readers v inner)
forms_read v inner it elements =
    let f = type_form v inner in (
      unknown_reads f 0,
      (
        made_reads (precision v) (precision_law v) (λ p. Stated (FixedBinary p)) f 1 (λ p. refl),
        (
          made_reads string_length length_law (λ n. Stated (Character n)) f 2 (λ n. refl),
          (
            made_reads string_length length_law (λ n. Stated (Varying n)) f 3 (λ n. refl),
            (
              made_reads string_length length_law (λ n. Stated (Bit n)) f 4 (λ n. refl),
              (
                made_reads nothing nothing_law (λ _. Stated Pointer) f 5 (λ n. refl),
                (
                  made_reads nothing nothing_law (λ _. Stated Offset) f 6 (λ n. refl),
                  (
                    made_reads area_size area_law (λ n. Stated (Area n)) f 7 (λ n. refl),
                    (
                      made_reads (dimensions ⊗ inner) (pair_law dimensions inner dimensions_law it) (λ p. array_of p.0 p.1) f 8 (λ p. array_form v inner p.0 p.1),
                      (
                        made_reads (members inner) (members_law inner it) structure_of f 9 (structure_form v inner),
                        open_forms_read v inner elements,
                      ),
                    ),
                  ),
                ),
              ),
            ),
          ),
        ),
      ),
    )

any_string_again : (v : Version) (inner : Field ParameterType) (f : StringForm) (rest : List ℕ) → has_stars v ≡ true
    → get_or (type_readers v inner) (any_string_tag f) unknown rest ≡ Ok (AnyString f, rest)
any_string_again First inner f rest h = absurd cc
any_string_again Second inner f rest h = absurd cc
any_string_again Third inner forms.Character rest h = refl
any_string_again Third inner forms.Varying rest h = refl
any_string_again Third inner forms.Bit rest h = refl

any_array_again : (v : Version) (inner : Field ParameterType) → IsField (element_of inner) → (k : ℕ) (e : ParameterType) (rest : List ℕ) → has_stars v ≡ true
    → (dimension_number ⊗ element_of inner).fits (k, e) ≡ true
    → get_or (type_readers v inner) 13 unknown ((dimension_number ⊗ element_of inner).bytes_of (k, e) ++ rest) ≡ Ok (AnyArray k e, rest)
any_array_again First inner it k e rest h g = absurd cc
any_array_again Second inner it k e rest h g = absurd cc
any_array_again Third inner it k e rest h g = made_again (dimension_number ⊗ element_of inner) (pair_law dimension_number (element_of inner) dimension_law it) (λ p. AnyArray p.0 p.1) (k, e) rest g

read_again : (v : Version) (inner : Field ParameterType) → IsField inner → IsField (element_of inner) → (t : ParameterType) (rest : List ℕ) → (type_form v inner t).fits ≡ true
    → get_or (type_readers v inner) (type_form v inner t).tag unknown ((type_form v inner t).bytes ++ rest) ≡ Ok (t, rest)
read_again v inner it elements (Stated (FixedBinary p)) rest h = made_again (precision v) (precision_law v) (λ p. Stated (FixedBinary p)) p rest h
read_again v inner it elements (Stated (Character n)) rest h = made_again string_length length_law (λ n. Stated (Character n)) n rest h
read_again v inner it elements (Stated (Varying n)) rest h = made_again string_length length_law (λ n. Stated (Varying n)) n rest h
read_again v inner it elements (Stated (Bit n)) rest h = made_again string_length length_law (λ n. Stated (Bit n)) n rest h
read_again v inner it elements (Stated Pointer) rest h = refl
read_again v inner it elements (Stated Offset) rest h = refl
read_again v inner it elements (Stated (Area n)) rest h = made_again area_size area_law (λ n. Stated (Area n)) n rest h
read_again v inner it elements (Stated (Array bs d)) rest h = made_again (dimensions ⊗ inner) (pair_law dimensions inner dimensions_law it) (λ p. array_of p.0 p.1) (bs, Stated d) rest h
read_again v inner it elements (Stated (Structure ds)) rest h =
    made_again (members inner) (members_law inner it) structure_of (map Stated (listed ds)) rest h
    ∙ ap (λ o. Ok (structure_with (map Stated (listed ds)) o, rest)) (stated_mapped (listed ds))
    ∙ ap (λ es. Ok (Stated (Structure es), rest)) (members_of-listed ds)
read_again v inner it elements (AnyString f) rest h = any_string_again v inner f rest (and_parts (has_stars v) true h).0
read_again v inner it elements (AnyArray k e) rest h =
    let both = and_parts (has_stars v) ((dimension_number ⊗ element_of inner).fits (k, e)) h in
    any_array_again v inner elements k e rest both.0 both.1
read_again v inner it elements (ArrayOf bs e) rest h =
    let both = and_parts (is_open e) ((dimensions ⊗ inner).fits (bs, e)) h in
    made_again (dimensions ⊗ inner) (pair_law dimensions inner dimensions_law it) (λ p. array_of p.0 p.1) (bs, e) rest both.1
    ∙ ap (λ t. Ok (t, rest)) (open_array bs e both.0)
read_again v inner it elements (StructureOf ts) rest h =
    let us = listed_types ts in
    let both = and_parts (list_any is_open us) ((members inner).fits us) h in
    made_again (members inner) (members_law inner it) structure_of us rest both.1
    ∙ ap (λ o. Ok (structure_with us o, rest)) (none_stated us both.0)
    ∙ ap (λ os. Ok (StructureOf os, rest)) (types_of-listed ts)

too_deep_law : IsField too_deep
too_deep_law = tagged_law (λ t. record { tag = 0; bytes = []; fits = false }) [] tt (λ t rest h. absurd cc)

pub description_within_law : (v : Version) (levels : ℕ) → IsField (description_within v levels)
unfolding description_within
description_within_law v zero = too_deep_law
description_within_law v (suc n) =
    let inner = description_within v n in
    let it = description_within_law v n in
    let elements = element_law v n it in
    tagged_law (type_form v inner) (type_readers v inner) (forms_read v inner it elements) (read_again v inner it elements)

pub description_law : (v : Version) → IsField (description v)
description_law v = description_within_law v 512

pub descriptions_both_ways : (v : Version) → BothWays (description v)
descriptions_both_ways v = both_ways (description v) (description_law v)
