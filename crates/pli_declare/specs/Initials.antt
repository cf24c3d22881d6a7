-- The values in INITIAL.
use Rattle.std.specs.Prelude.{ℕ, Bool, true, false, not, ◌+◌, ◌*◌, ◌^◌, ◌&&◌, ◌||◌, nat_lt, Option}
use Rattle.std.specs.Prelude.{Some, None, option_map, List, [], ◌∷◌, if◌then◌else◌}
use Rattle.std.specs.List.{list_all}
use Rattle.pli_base.specs.Declarations as tree
use Rattle.pli_base.specs.declared.declaration.WrittenBounds.{WrittenBounds}
use Rattle.pli_base.specs.declared.declaration.InitialValue.{InitialValue}
use Rattle.pli_base.specs.declared.declaration.InitialValue.TheVariants as initial
use Rattle.pli_map.specs.Description as map
use Rattle.pli_map.specs.Sizes.{count_of}
use Rattle.pli_declare.specs.Sets.{area, has}
use Rattle.pli_declare.specs.Sets as sets
use Rattle.pli_declare.specs.Types.{scalar_of}
use Rattle.pli_declare.specs.Extents.{all_bounds, are_unknown}
use Rattle.pli_declare.specs.declared.place.ItemPlace.{ItemPlace}

-- the values of an item's INITIAL
abbrev pub values_in : List tree.Attribute → List InitialValue
values_in [] = []
values_in (tree.Simple (tree.Initial values) ∷ attributes) = values
values_in (a ∷ attributes) = values_in attributes

-- a constant of the type itself: an integer within the precision, a string of any length, NULL for a locator
abbrev pub fits : map.Description → InitialValue → Bool
fits (map.FixedBinary p) (initial.Integer factor value) = nat_lt value.value (2 ^ p)
fits (map.Character n) (initial.Characters string) = true
fits (map.Varying n) (initial.Characters string) = true
fits (map.Bit n) (initial.Bits string) = true
fits map.Pointer initial.Null = true
fits map.Offset initial.Null = true
fits d value = false

-- how many elements a factor gives a value: one where it does not stand, none where it is 0
abbrev pub factor_or_one : Option ℕ → ℕ
factor_or_one None = 1
factor_or_one (Some n) = n

-- how many elements a value of INITIAL is for
abbrev pub elements_given : InitialValue → ℕ
elements_given (initial.Integer factor value) = factor_or_one factor
elements_given (initial.Characters string) = 1
elements_given (initial.Bits string) = 1
elements_given initial.Null = 1

-- how many all of them are for
abbrev pub all_given : List InitialValue → ℕ
all_given [] = 0
all_given (value ∷ values) = elements_given value + all_given values

-- more values than elements, where the number of elements is known
abbrev pub is_more_than : Option ℕ → ℕ → Bool
is_more_than None given = false
is_more_than (Some elements) given = nat_lt elements given

-- how many elements there are: those that the levels above make, each with its own dimensions
abbrev pub elements_of : ItemPlace → List WrittenBounds → Option ℕ
elements_of p dimensions = option_map (λ above. above * count_of (all_bounds dimensions)) p.elements_above

-- how many elements levels above and these dimensions make together, where none of them has bad bounds or a
-- `*`
abbrev pub elements_inside : Option ℕ → List WrittenBounds → Option ℕ
elements_inside above dimensions =
    if are_unknown dimensions then None
    else option_map (λ count. count * count_of (all_bounds dimensions)) above

-- INITIAL with members or with AREA, with a value that does not fit, or with too many
unfoldable pub is_bad_initial : ItemPlace → List WrittenBounds → ℕ → Option ℕ → List InitialValue → Bool
is_bad_initial p dimensions s n values =
    has s sets.initial
    && (p.has_members || has s area || not (list_all (fits (scalar_of s n)) values)
    || is_more_than (elements_of p dimensions) (all_given values))
