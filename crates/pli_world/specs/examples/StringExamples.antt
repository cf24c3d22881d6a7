-- Worked examples: dummy arguments for strings of any length; subscripts and bounds of the array that a place is;
-- strings as the string at a place takes them.
use Rattle.std.specs.Prelude.{◌≡◌, ℕ, ℤ, pos, false, Some, None, [], ◌∷◌, codes}
use Rattle.pli_map.specs.Description.{Description, FixedBinary, Character, Varying, Bit, Array}
use Rattle.pli_map.specs.declared.dimension.WhichBound.TheVariants.{Low, High}
use Rattle.pli_map.specs.declared.parameter.StringForm.TheVariants as forms
use Rattle.pli_value.specs.Value.{Number, Characters, Bits}
use Rattle.pli_run.specs.declared.ending.RunError.TheVariants.{SubscriptRange}
use Rattle.pli_world.specs.Storage.{Place, whole, field_of}
use Rattle.pli_world.specs.World.{World, nothing, Answer, Yields, Raises, Wrong, further}
use Rattle.pli_world.specs.Strings.{string_dummy, subscripted_by, bound_of_place, string_as}

-- a dummy argument is as long as its value
abbrev pub DummyOfLength : Type 0
DummyOfLength =
    string_dummy forms.Character (Characters (codes "AB"))
    ≡ Some (record { description = Character 2; value = Characters (codes "AB") })

-- for an empty value it has one element, where a VARYING one keeps the empty value
abbrev pub DummyOfNothing : Type 0
DummyOfNothing =
    (string_dummy forms.Character (Characters [])
    ≡ Some (record { description = Character 1; value = Characters (codes " ") }))
    × (string_dummy forms.Varying (Characters [])
    ≡ Some (record { description = Varying 1; value = Characters [] }))
    × (string_dummy forms.Bit (Bits [])
    ≡ Some (record { description = Bit 1; value = Bits (false ∷ []) }))

-- there is none for what is no such string
abbrev pub NoStringDummy : Type 0
NoStringDummy =
    (string_dummy forms.Character (Number (pos 1)) ≡ None)
    × (string_dummy forms.Bit (Characters (codes "1")) ≡ None)

-- an array (2:3, 5:7) of CHARACTER(2)
abbrev pub grid : Description
grid =
    Array (record { low = pos 2; high = pos 3 } ∷ record { low = pos 5; high = pos 7 } ∷ []) (Character 2)

-- the place of a whole one
abbrev pub grid_place : Place
grid_place = whole 0 grid

-- the element of two subscripts: the last one varies fastest
abbrev pub grid_element : (x y : ℤ) → World → Answer Place
grid_element x y w = further (subscripted_by 1 x grid_place w) (subscripted_by 2 y)

-- it lies after three elements of the row before, and one of its own; no generation is asked for
abbrev pub ElementOfGrid : Type 0
ElementOfGrid =
    grid_element (pos 3) (pos 6) nothing ≡ Yields (field_of 8 (Character 2) grid_place) nothing

-- a subscript of the first dimension is within the bounds of that one
abbrev pub OutOfGrid : Type 0
OutOfGrid = grid_element (pos 5) (pos 6) nothing ≡ Raises SubscriptRange nothing

-- there is no third dimension, and a scalar has none
abbrev pub NoDimension : Type 0
NoDimension =
    (subscripted_by 3 (pos 9) grid_place nothing ≡ Wrong)
    × (subscripted_by 1 (pos 9) (whole 0 (Character 2)) nothing ≡ Wrong)
    × (bound_of_place Low 3 grid_place nothing ≡ Wrong)

-- bounds of the second dimension
abbrev pub BoundsOfGrid : Type 0
BoundsOfGrid =
    (bound_of_place Low 2 grid_place nothing ≡ Yields (Number (pos 5)) nothing)
    × (bound_of_place High 2 grid_place nothing ≡ Yields (Number (pos 7)) nothing)

-- a string is cut or extended to the length of the string at a place; a number's place takes none, and a
-- string's no number
abbrev pub FittedToPlace : Type 0
FittedToPlace =
    (string_as (whole 0 (Character 2)) (Characters (codes "ABC")) nothing
    ≡ Yields (Characters (codes "AB")) nothing)
    × (string_as (whole 0 (Character 2)) (Characters (codes "A")) nothing
    ≡ Yields (Characters (codes "A ")) nothing)
    × (string_as (whole 0 (FixedBinary 15)) (Number (pos 1)) nothing ≡ Wrong)
    × (string_as (whole 0 (Character 2)) (Number (pos 1)) nothing ≡ Wrong)
