-- The bytes of descriptions, and of types in which a `*` stands (own). Their precisions are those of a
-- version, and so is whether a `*` may stand.
use Rattle.std.specs.Prelude.{ℕ, zero, suc, ◌%◌, nat_eq, int_le, Bool, true, false, ◌&&◌, ◌||◌, List, []}
use Rattle.std.specs.Prelude.{◌∷◌, map, get_or, if◌then◌else◌}
use Rattle.std.specs.Int.{is_in_range}
use Rattle.std.specs.List.{list_any}
use Rattle.pli_map.specs.declared.description.Bounds.{Bounds}
use Rattle.pli_map.specs.declared.parameter.StringForm.{StringForm}
use Rattle.pli_map.specs.declared.parameter.StringForm.TheVariants as forms
use Rattle.pli_map.specs.Description.{Description, FixedBinary, Character, Varying, Bit, Pointer, Offset}
use Rattle.pli_map.specs.Description.{Area, Array, Structure}
use Rattle.pli_map.specs.ParameterTypes.{ParameterType, Stated, AnyString, AnyArray, ArrayOf, StructureOf}
use Rattle.pli_map.specs.ParameterTypes.{is_open, listed_types, array_of, structure_of}
use Rattle.pli_code.specs.Fields.{Field, Form, Reader, nothing, checked, ◌⊗◌, shaped, list_of, form, made}
use Rattle.pli_code.specs.Fields.{unknown, tagged, opened_by, u2, u4, from_to, count_of_one}
use Rattle.pli_code.specs.Instructions.{precision, bound, dimension_number}
use Rattle.pli_code.specs.Versions.{has_stars}
use Rattle.pli_code.specs.declared.version.Version.{Version}
use Rattle.pli_map.specs.Description.{listed}

-- a length of a string
abbrev pub string_length : Field ℕ
string_length = from_to 1 32767 u2

-- an area's size, a multiple of 8
abbrev pub area_size : Field ℕ
area_size = checked (λ n. nat_eq (n % 8) 0) (from_to 1 1000000 u4)

-- the bounds of a dimension: no low one is over its high one
abbrev pub bounds : Field Bounds
bounds = shaped (λ p. record { low = p.0; high = p.1 }) (λ b. (b.low, b.high))
    (checked (λ p. int_le p.0 p.1) (bound ⊗ bound))

-- one to eight dimensions
abbrev pub dimensions : Field (List Bounds)
dimensions = list_of (from_to 1 8 count_of_one) bounds

-- one member or more, by the field of each
abbrev pub members : Field ParameterType → Field (List ParameterType)
members inner = list_of (from_to 1 65535 u2) inner

-- the tag of an element of an array whose bounds are `*`: a scalar that is no area
abbrev pub is_element_tag : (tag : ℕ) → Bool
is_element_tag tag = is_in_range 1 6 tag || is_in_range 10 12 tag

-- it is such an element
abbrev pub is_element : ParameterType → Bool
is_element (Stated (Area n)) = false
is_element (Stated (Array bs element)) = false
is_element (Stated (Structure ds)) = false
is_element (Stated scalar) = true
is_element (AnyString f) = true
is_element other = false

-- such an element, by the field of what stands there; its tag is looked at first
abbrev pub element_of : Field ParameterType → Field ParameterType
element_of inner = record {
  bytes_of = inner.bytes_of;
  fits = λ t. inner.fits t && is_element t;
  read = opened_by is_element_tag inner.read;
}

-- a description, by the field of those within it
abbrev pub description_form : Version → Field ParameterType → Description → Form
description_form v inner (FixedBinary p) = form 1 (precision v) p
description_form v inner (Character n) = form 2 string_length n
description_form v inner (Varying n) = form 3 string_length n
description_form v inner (Bit n) = form 4 string_length n
description_form v inner Pointer = form 5 nothing tt
description_form v inner Offset = form 6 nothing tt
description_form v inner (Area n) = form 7 area_size n
description_form v inner (Array bs element) = form 8 (dimensions ⊗ inner) (bs, Stated element)
description_form v inner (Structure ds) = form 9 (members inner) (map Stated (listed ds))

-- a form that may stand there if this is so
abbrev pub form_if : Bool → Form → Form
form_if good f = record { tag = f.tag; bytes = f.bytes; fits = good && f.fits }

-- the tag of a string of any length
abbrev pub any_string_tag : StringForm → ℕ
any_string_tag forms.Character = 10
any_string_tag forms.Varying = 11
any_string_tag forms.Bit = 12

-- a type, by the field of those within it. A string of any length is its tag alone; arrays and structures with
-- something open within them have the tags of those that are stated
abbrev pub type_form : Version → Field ParameterType → ParameterType → Form
type_form v inner (Stated d) = description_form v inner d
type_form v inner (AnyString f) = form_if (has_stars v) (form (any_string_tag f) nothing tt)
type_form v inner (AnyArray k element) =
    form_if (has_stars v) (form 13 (dimension_number ⊗ element_of inner) (k, element))
type_form v inner (ArrayOf bs element) =
    form_if (is_open element) (form 8 (dimensions ⊗ inner) (bs, element))
type_form v inner (StructureOf ts) =
    form_if (list_any is_open (listed_types ts)) (form 9 (members inner) (listed_types ts))

-- how types are read whose tags only versions with a `*` have, from 10 on
abbrev pub open_readers : Version → Field ParameterType → List (Reader ParameterType)
open_readers v inner =
    if has_stars v then made (λ _. AnyString forms.Character) nothing
    ∷ made (λ _. AnyString forms.Varying) nothing
    ∷ made (λ _. AnyString forms.Bit) nothing
    ∷ made (λ p. AnyArray p.0 p.1) (dimension_number ⊗ element_of inner)
    ∷ []
    else []

-- how each form of types is read, by its tag
abbrev pub type_readers : Version → Field ParameterType → List (Reader ParameterType)
type_readers v inner =
    unknown
    ∷ made (λ p. Stated (FixedBinary p)) (precision v)
    ∷ made (λ n. Stated (Character n)) string_length
    ∷ made (λ n. Stated (Varying n)) string_length
    ∷ made (λ n. Stated (Bit n)) string_length
    ∷ made (λ _. Stated Pointer) nothing
    ∷ made (λ _. Stated Offset) nothing
    ∷ made (λ n. Stated (Area n)) area_size
    ∷ made (λ p. array_of p.0 p.1) (dimensions ⊗ inner)
    ∷ made structure_of (members inner)
    ∷ open_readers v inner

-- what stands after the tag
unfoldable pub described : Version → (inner : Field ParameterType) → (tag : ℕ) → Reader ParameterType
described v inner tag = get_or (type_readers v inner) tag unknown

-- in no level, nothing has a spelling
abbrev pub too_deep : Field ParameterType
too_deep = tagged (λ t. record { tag = 0; bytes = []; fits = false }) []

-- descriptions and types in at most so many levels
unfoldable pub description_within : Version → (levels : ℕ) → Field ParameterType
description_within v zero = too_deep
description_within v (suc n) =
    tagged (type_form v (description_within v n)) (type_readers v (description_within v n))

-- those in at most 512 levels
abbrev pub description : Version → Field ParameterType
description v = description_within v 512
