-- Where the scalars of a description lie in its bytes (own). Bytes between scalars are in none.
use Rattle.std.specs.Prelude.{ℕ, zero, suc, ◌+◌, nat_eq, nat_lt, Bool, ◌&&◌, List}
use Rattle.std.specs.Prelude.{[], ◌∷◌, ◌++◌, map, if◌then◌else◌}
use Rattle.std.specs.Int.{next_multiple_of}
use Rattle.pli_map.specs.Description.{Description, Area, Array, Structure, Members, NoMembers, MemberThen}
use Rattle.pli_map.specs.PlacedParts.{PlacedPart, moved}
use Rattle.pli_map.specs.Sizes.{alignment_of, count_of, size_of, stride_of}
use Rattle.pli_map.specs.Values.{holds}
use Rattle.pli_value.specs.Value.{Value}

-- the same places again and again, so many times, each time a stride further
abbrev pub spread : (at stride count : ℕ) → List PlacedPart → List PlacedPart
spread at stride zero ss = []
spread at stride (suc n) ss = map (moved at) ss ++ spread (at + stride) stride n ss

-- where the scalars of a description lie, in their order
abbrev mutual
  pub scalars_at : Description → List PlacedPart
  scalars_at (Area bytes) = []
  scalars_at (Array bounds element) = spread 0 (stride_of element) (count_of bounds) (scalars_at element)
  scalars_at (Structure members) = scalars_after 0 members
  scalars_at scalar = record { offset = 0; description = scalar } ∷ []

  -- where those of members lie, each at its next aligned place after the one before, and the first after
  -- this byte
  pub scalars_after : (at : ℕ) → Members → List PlacedPart
  scalars_after at NoMembers = []
  scalars_after at (MemberThen d ds) =
      map (moved (next_multiple_of at (alignment_of d))) (scalars_at d)
      ++ scalars_after (next_multiple_of at (alignment_of d) + size_of d) ds

-- a scalar begins on this byte, and has it
abbrev pub begins_on : (offset : ℕ) → PlacedPart → Bool
begins_on offset s = nat_eq offset s.offset && nat_lt 0 (size_of s.description)

-- the values of these scalars, with this one in the place of that of the scalar which begins on a byte, if
-- that may hold it
abbrev pub with_value_on : (offset : ℕ) → Value → List PlacedPart → List Value → List Value
with_value_on offset v [] vs = vs
with_value_on offset v (s ∷ ss) [] = []
with_value_on offset v (s ∷ ss) (w ∷ vs) =
    if begins_on offset s then (if holds s.description v then v else w) ∷ vs
    else w ∷ with_value_on offset v ss vs
