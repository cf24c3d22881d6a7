-- The type that a set of data attributes says, with its defaults (X3.74, limits own).
use Rattle.std.specs.Prelude.{ℕ, Bool, true, false, not, nat_le, ◌&&◌, ◌||◌, if◌then◌else◌, List, [], ◌∷◌}
use Rattle.std.specs.Prelude.{Option, Some, None}
use Rattle.std.specs.List.{list_any}
use Rattle.std.specs.Option.{option_or}
use Rattle.pli_base.specs.Declarations as tree
use Rattle.pli_base.specs.declared.declaration.WrittenLength.{WrittenLength}
use Rattle.pli_base.specs.declared.declaration.WrittenLength.TheVariants as extent
use Rattle.pli_map.specs.Description as map
use Rattle.pli_map.specs.ParameterTypes.{ParameterType, Stated, AnyString}
use Rattle.pli_map.specs.declared.parameter.StringForm.{StringForm}
use Rattle.pli_map.specs.declared.parameter.StringForm.TheVariants as forms
use Rattle.pli_declare.specs.Sets.{fixed, varying, character, bit, pointer, offset, area, has}

-- the number that a length or a size is; a `*` is none
abbrev pub stated_number : WrittenLength → Option ℕ
stated_number (extent.Stated n) = Some n
stated_number extent.Any = None

-- that of one that may be left out
abbrev pub written_number : Option WrittenLength → Option ℕ
written_number None = None
written_number (Some n) = stated_number n

-- the precision, length or size of an attribute
abbrev pub simple_number : tree.SimpleAttribute → Option ℕ
simple_number (tree.Fixed n) = n
simple_number (tree.Binary n) = n
simple_number (tree.Character n) = written_number n
simple_number (tree.Bit n) = written_number n
simple_number (tree.Area n) = written_number n
simple_number a = None

-- a length or a size is `*`
abbrev pub is_any : WrittenLength → Bool
is_any (extent.Stated n) = false
is_any extent.Any = true

-- one that may be left out is
abbrev pub is_written_any : Option WrittenLength → Bool
is_written_any None = false
is_written_any (Some n) = is_any n

-- that of an attribute is
abbrev pub simple_star : tree.SimpleAttribute → Bool
simple_star (tree.Character n) = is_written_any n
simple_star (tree.Bit n) = is_written_any n
simple_star (tree.Area n) = is_written_any n
simple_star a = false

-- that in an attribute of a description is
abbrev pub described_star : tree.DescribedAttribute → Bool
described_star (tree.Plain a) = simple_star a
described_star tree.AnyEntry = false
described_star tree.AnyReturns = false

-- that of one of these attributes is
abbrev pub has_star : List tree.DescribedAttribute → Bool
has_star attributes = list_any described_star attributes

-- the number in an attribute of a description
abbrev pub described_number : tree.DescribedAttribute → Option ℕ
described_number (tree.Plain a) = simple_number a
described_number tree.AnyEntry = None
described_number tree.AnyReturns = None

-- the first precision, length or size: where attributes agree, there is no other
abbrev pub number_of : List tree.DescribedAttribute → Option ℕ
number_of [] = None
number_of (a ∷ attributes) = option_or (described_number a) (number_of attributes)

-- from 1 to a limit, where it is written
abbrev pub is_up_to : ℕ → Option ℕ → Bool
is_up_to limit None = true
is_up_to limit (Some n) = nat_le 1 n && nat_le n limit

-- a number, or else the default
abbrev pub number_or : ℕ → Option ℕ → ℕ
number_or default None = default
number_or default (Some n) = n

-- a precision is one of 1 to 63 digits
unfoldable pub is_bad_precision : ℕ → Option ℕ → Bool
is_bad_precision s n = has s fixed && not (is_up_to 63 n)

-- a length is one of 1 to 32,767, and an area's size one of 1 to 1,000,000 bytes
unfoldable pub is_bad_length : ℕ → Option ℕ → Bool
is_bad_length s n =
    (has s character || has s varying || has s bit) && not (is_up_to 32767 n) || has s area
    && not (is_up_to 1000000 n)

-- a `*` is the length of a parameter's string alone: of nothing else, and no area's size
abbrev pub is_bad_star : (is_parameter star : Bool) → ℕ → Bool
is_bad_star is_parameter star s = star && (not is_parameter || has s area)

-- the type, with precision 15, length 1 and size 1,000 by default; an area of that size where no type stands
unfoldable pub scalar_of : ℕ → Option ℕ → map.Description
scalar_of s n =
    if has s fixed then map.FixedBinary (number_or 15 n)
    else if has s varying then map.Varying (number_or 1 n)
    else if has s character then map.Character (number_or 1 n)
    else if has s bit then map.Bit (number_or 1 n)
    else if has s pointer then map.Pointer
    else if has s offset then map.Offset
    else if has s area then map.area (number_or 1000 n)
    else map.area 1000

-- the form of the strings that these attributes say
abbrev pub form_of : ℕ → StringForm
form_of s = if has s varying then forms.Varying else if has s character then forms.Character else forms.Bit

-- the type of an element: a string of any length, where its length is `*`
abbrev pub element_of : (star : Bool) → ℕ → Option ℕ → ParameterType
element_of true s n = AnyString (form_of s)
element_of false s n = Stated (scalar_of s n)
