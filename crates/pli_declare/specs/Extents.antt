-- The bounds of dimensions.
use Rattle.std.specs.Prelude.{Bool, true, false, not, ◌&&◌, ◌||◌, nat_lt, int_le, ℤ, pos, negsuc}
use Rattle.pli_base.specs.Declarations.{integer_of}
use Rattle.std.specs.Prelude.{Option, Some, None, List, length, map}
use Rattle.std.specs.List.{list_all, list_any}
use Rattle.pli_base.specs.declared.declaration.WrittenBounds.{WrittenBounds}
use Rattle.pli_base.specs.declared.declaration.WrittenBounds.TheVariants as limits
use Rattle.pli_base.specs.declared.declaration.Integer.{Integer}
use Rattle.pli_map.specs.declared.description.Bounds as described

-- a lower bound, 1 by default
abbrev pub low_of : Option Integer → ℤ
low_of None = pos 1
low_of (Some i) = integer_of i

-- the bounds of a dimension, the lower one 1 where it is left out; a `*`, which says none, counts as 1 to 1
abbrev pub bounds_of : WrittenBounds → described.Bounds
bounds_of (limits.Stated low high) = record { low = low_of low; high = integer_of high }
bounds_of limits.Any = record { low = pos 1; high = pos 1 }

-- each bound that is written is one of -32,767 to 32,767, and the lower one is not above the other
abbrev pub are_good : WrittenBounds → Bool
are_good (limits.Stated low high) =
    int_le (negsuc 32766) (low_of low) && int_le (low_of low) (integer_of high)
    && int_le (integer_of high) (pos 32767)
are_good limits.Any = true

-- at most 8 dimensions of its own, each with good bounds
unfoldable pub are_bad_bounds : List WrittenBounds → Bool
are_bad_bounds dimensions = nat_lt 8 (length dimensions) || not (list_all are_good dimensions)

-- the bounds of all dimensions
abbrev pub all_bounds : List WrittenBounds → List described.Bounds
all_bounds dimensions = map bounds_of dimensions

-- the bounds are `*`
abbrev pub is_star : WrittenBounds → Bool
is_star (limits.Stated low high) = false
is_star limits.Any = true

-- those of a dimension are
abbrev pub has_star : List WrittenBounds → Bool
has_star dimensions = list_any is_star dimensions

-- a `*` stands where it may not: at what is no parameter, or beside bounds that are written
abbrev pub are_bad_stars : (is_parameter : Bool) → List WrittenBounds → Bool
are_bad_stars is_parameter dimensions =
    has_star dimensions && not (is_parameter && list_all is_star dimensions)

-- how many elements there are is not known: bounds are bad, or a `*`
abbrev pub are_unknown : List WrittenBounds → Bool
are_unknown dimensions = are_bad_bounds dimensions || has_star dimensions

-- whether there are dimensions
abbrev pub is_array : List WrittenBounds → Bool
is_array dimensions = nat_lt 0 (length dimensions)
