-- Extents that are those of the argument (X3.74): a dummy argument for a string of any length; subscripts and
-- bounds of the array that a place is; a string as the string at a place takes it.
use Rattle.std.specs.Prelude.{ℕ, max, ◌*◌, nat_le, false, ◌&&◌, ℤ, ◌-ℤ◌, int_le, unsigned_abs, Option, Some}
use Rattle.std.specs.Prelude.{None, length, if◌then◌else◌}
use Rattle.pli_run.specs.declared.ending.RunError.TheVariants.{SubscriptRange}
use Rattle.pli_map.specs.Description.{Description, Character, Varying, Bit}
use Rattle.pli_map.specs.Dimensions.{ArrayDimension, dimension_at, bound_of}
use Rattle.pli_map.specs.declared.dimension.WhichBound.{WhichBound}
use Rattle.pli_map.specs.declared.parameter.StringForm.{StringForm}
use Rattle.pli_map.specs.declared.parameter.StringForm.TheVariants as forms
use Rattle.pli_value.specs.Strings.{fitted}
use Rattle.pli_value.specs.Value.{Value, Number, Characters, Bits}
use Rattle.pli_operation.specs.Operations.{string_fitted_to}
use Rattle.pli_world.specs.Storage.{Place}
use Rattle.pli_world.specs.World.{World, Answer, Yields, Raises, Wrong, calculation, dummy_of, led_on}

-- ---- dummy arguments

-- how long the string of a dummy argument is, for a value of so many elements: one element for an empty one
abbrev pub dummy_length : ℕ → ℕ
dummy_length n = max 1 n

-- the greatest length of a string
abbrev pub greatest_length : ℕ
greatest_length = 32767

-- a dummy argument for a string: its description, and the value that it holds
pub record StringDummy : Type 0 where
  pub description : Description
  pub value : Value

-- one of a description and a value
abbrev pub dummy_with : Description → Value → StringDummy
dummy_with d v = record { description = d; value = v }

-- one, unless its value is longer than a string may be
abbrev pub unless_long : (elements : ℕ) → StringDummy → Option StringDummy
unless_long n d = if nat_le n greatest_length then Some d else None

-- of characters of a fixed length, of at most so many, or of bits: as long as the value; for an empty value of
-- one element, which is a blank or a zero, where a VARYING one keeps the empty value. There is none for a value
-- that is no such string
abbrev pub string_dummy : StringForm → Value → Option StringDummy
string_dummy forms.Character (Characters s) =
    unless_long (length s)
    (dummy_with (Character (dummy_length (length s))) (Characters (fitted 32 (dummy_length (length s)) s)))
string_dummy forms.Varying (Characters s) =
    unless_long (length s) (dummy_with (Varying (dummy_length (length s))) (Characters s))
string_dummy forms.Bit (Bits s) =
    unless_long (length s)
    (dummy_with (Bit (dummy_length (length s))) (Bits (fitted false (dummy_length (length s)) s)))
string_dummy form v = None

-- it becomes one, which the newest prepares; it is wrong where there is none
abbrev pub made_dummy : Option StringDummy → World → Answer Place
made_dummy None w = Wrong
made_dummy (Some d) w = dummy_of d.description d.value w

-- a string becomes a dummy argument for a string of this form and any length
unfoldable pub string_dummy_of : StringForm → Value → World → Answer Place
string_dummy_of form v w = made_dummy (string_dummy form v) w

-- ---- subscripts and bounds

-- a subscript of a dimension: it is within the bounds, and leads on; it is wrong where there is no such one
abbrev pub subscripted_in : Option ArrayDimension → ℤ → Place → World → Answer Place
subscripted_in None x p w = Wrong
subscripted_in (Some d) x p w =
    if int_le d.bounds.low x && int_le x d.bounds.high
    then led_on (unsigned_abs (x -ℤ d.bounds.low) * d.multiplier) d.after p w
    else Raises SubscriptRange w

-- a subscript of the dimension of a number, counted from 1, of the array that a place is: after the last one
-- the place is the element's
unfoldable pub subscripted_by : (dimension : ℕ) → ℤ → Place → World → Answer Place
subscripted_by k x p w = subscripted_in (dimension_at p.description k) x p w

-- a bound of a dimension; it is wrong to ask for one where there is no such dimension
abbrev pub bound_at : WhichBound → Option ArrayDimension → World → Answer Value
bound_at which None w = Wrong
bound_at which (Some d) w = Yields (Number (bound_of which d.bounds)) w

-- a bound of the dimension of a number of the array that a place is, which is no use of the place
unfoldable pub bound_of_place : WhichBound → (dimension : ℕ) → Place → World → Answer Value
bound_of_place which k p w = bound_at which (dimension_at p.description k) w

-- ---- assignment

-- a string as the string at a place takes it; it is wrong where the place is no string's, or the value none
unfoldable pub string_as : Place → Value → World → Answer Value
string_as p v w = calculation (string_fitted_to p.description v) w
