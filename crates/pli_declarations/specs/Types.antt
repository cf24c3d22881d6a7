-- The type that attributes say, with its defaults (X3.74, limits own).
use Rattle.std.specs.Prelude.{ℕ, Bool, not, ◌&&◌, ◌||◌, nat_le, if◌then◌else◌, Option, Some, None, is_none}
use Rattle.std.specs.Prelude.{option_map, List, slice_get}
use Rattle.std.specs.List.{list_any, filter_map}
use Rattle.std.specs.Option.{unwrap_or}
use Rattle.pli_base.specs.Declarations.{DescribedAttribute, Plain, Fixed, Binary, Character, Bit, Varying}
use Rattle.pli_base.specs.Declarations.{Pointer, Offset, Area}
use Rattle.pli_base.specs.declared.declaration.WrittenLength.{WrittenLength}
use Rattle.pli_base.specs.declared.declaration.WrittenLength.TheVariants as lengths
use Rattle.pli_map.specs.Description as types
use Rattle.pli_map.specs.ParameterTypes.{ParameterType, Stated, AnyString}
use Rattle.pli_map.specs.declared.parameter.StringForm.TheVariants as forms
use Rattle.pli_declarations.specs.Attributes.{has}

-- the precision, length or size that an attribute says
abbrev pub extent_of : DescribedAttribute → Option WrittenLength
extent_of (Plain (Fixed n)) = option_map lengths.Stated n
extent_of (Plain (Binary n)) = option_map lengths.Stated n
extent_of (Plain (Character n)) = n
extent_of (Plain (Bit n)) = n
extent_of (Plain (Area n)) = n
extent_of other = None

-- the number that it is; a `*` is none
abbrev pub stated : WrittenLength → Option ℕ
stated (lengths.Stated n) = Some n
stated lengths.Any = None

-- the first of these that is a number: where attributes agree, there is no other
abbrev pub number_of : List DescribedAttribute → Option ℕ
number_of attributes = slice_get (filter_map stated (filter_map extent_of attributes)) 0

-- one of these is `*`
abbrev pub has_star : List DescribedAttribute → Bool
has_star attributes = list_any (λ n. is_none (stated n)) (filter_map extent_of attributes)

-- from 1 to a limit, where it is written
abbrev pub is_up_to : (limit : ℕ) → Option ℕ → Bool
is_up_to limit n = nat_le 1 (unwrap_or n 1) && nat_le (unwrap_or n 1) limit

-- a length is one of 1 to 32,767, and an area's size one of 1 to 1,000,000 bytes
abbrev pub is_bad_length : List DescribedAttribute → Bool
is_bad_length attributes =
    (has attributes (Plain (Character None)) || has attributes (Plain Varying)
    || has attributes (Plain (Bit None)))
    && not (is_up_to 32767 (number_of attributes))
    || has attributes (Plain (Area None)) && not (is_up_to 1000000 (number_of attributes))

-- the type, with precision 15, length 1 and size 1,000 by default; an area of that size where no type stands
abbrev pub scalar_of : List DescribedAttribute → types.Description
scalar_of attributes =
    let n = number_of attributes in
    if has attributes (Plain (Fixed None)) then types.FixedBinary (unwrap_or n 15)
    else if has attributes (Plain Varying) then types.Varying (unwrap_or n 1)
    else if has attributes (Plain (Character None)) then types.Character (unwrap_or n 1)
    else if has attributes (Plain (Bit None)) then types.Bit (unwrap_or n 1)
    else if has attributes (Plain Pointer) then types.Pointer
    else if has attributes (Plain (Offset None)) then types.Offset
    else if has attributes (Plain (Area None)) then types.area (unwrap_or n 1000)
    else types.area 1000

-- the type of an element: a string of any length, where its length is `*`
abbrev pub element_of : List DescribedAttribute → ParameterType
element_of attributes =
    if not (has_star attributes) then Stated (scalar_of attributes)
    else if has attributes (Plain Varying) then AnyString forms.Varying
    else if has attributes (Plain (Character None)) then AnyString forms.Character
    else AnyString forms.Bit
