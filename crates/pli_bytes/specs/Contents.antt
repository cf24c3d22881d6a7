-- What bytes hold (own): each scalar of a description lies at an offset of its bytes, and what they hold is
-- the list of what the bytes of each scalar hold. Bytes between scalars are in none.
use Rattle.std.specs.Prelude.{ℕ, ◌+◌, pos, Option, Some, None, List}
use Rattle.std.specs.Prelude.{[], ◌∷◌, ◌++◌, map, length, take, drop, if◌then◌else◌}
use Rattle.std.specs.Option.{unwrap_or}
use Rattle.pli_map.specs.Description.{Description}
use Rattle.pli_map.specs.Parts.{PlacedPart}
use Rattle.pli_map.specs.Sizes.{size_of}
use Rattle.pli_map.specs.StoredValues.{loaded_value}
use Rattle.pli_value.specs.Value.{Value, Number}
pub use Rattle.pli_map.specs.ScalarPlaces.{begins_on, scalars_at, scalars_after, spread, with_value_on}

-- the one of these scalars that begins on a byte, if one does
abbrev pub scalar_on : (offset : ℕ) → List PlacedPart → Option PlacedPart
scalar_on offset [] = None
scalar_on offset (s ∷ ss) = if begins_on offset s then Some s else scalar_on offset ss

-- the value that bytes hold under the description of a scalar; zero under any other
abbrev pub value_of : Description → List ℕ → Value
value_of d bytes = unwrap_or (loaded_value d bytes) (Number (pos 0))

-- so many bytes from one on
abbrev pub bytes_from : (first count : ℕ) → List ℕ → List ℕ
bytes_from first count bytes = take count (drop first bytes)

-- what they hold where a scalar lies
abbrev pub value_in : List ℕ → PlacedPart → Value
value_in bytes s = value_of s.description (bytes_from s.offset (size_of s.description) bytes)

-- what they hold under a description, scalar by scalar
abbrev pub values_of : Description → List ℕ → List Value
values_of d bytes = map (value_in bytes) (scalars_at d)

-- these in the place of as many bytes from one on
abbrev pub with_bytes_at : (first : ℕ) → (new : List ℕ) → List ℕ → List ℕ
with_bytes_at first new bytes = take first bytes ++ (new ++ drop (first + length new) bytes)
