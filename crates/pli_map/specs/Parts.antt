-- Where the parts of a description stand in it (row-major order X3.74, the rest own).
use Rattle.std.specs.Prelude.{ℕ, ◌+◌, ◌*◌, ◌&&◌, int_le, ℤ, ◌-ℤ◌, unsigned_abs, Option, Some, None}
use Rattle.std.specs.Prelude.{option_map, option_and_then, List, [], ◌∷◌, if◌then◌else◌}
use Rattle.pli_map.specs.declared.description.Bounds.{Bounds}
use Rattle.pli_map.specs.Description.{Description, Array, Structure}
use Rattle.pli_map.specs.Sizes.{count_of, stride_of}
pub use Rattle.pli_map.specs.PlacedParts.{PlacedPart, member_after, moved}

-- a step from a description to a part of it: to a member of a structure, counted from 0, or to the element of
-- an array at its subscripts
pub data PathStep : Type 0 where
  Member : (number : ℕ) → PathStep
  Element : (subscripts : List ℤ) → PathStep

-- how far a subscript is above its lower bound, where it is within its bounds
abbrev pub distance_of : Bounds → ℤ → Option ℕ
distance_of b x = if int_le b.low x && int_le x b.high then Some (unsigned_abs (x -ℤ b.low)) else None

-- how many elements stand before the one at these subscripts, in row-major order: the last subscript varies
-- fastest
abbrev pub index_of : List Bounds → List ℤ → Option ℕ
index_of [] [] = Some 0
index_of (b ∷ bs) (x ∷ xs) =
    option_and_then (λ d. option_map (λ k. d * count_of bs + k) (index_of bs xs)) (distance_of b x)
index_of [] (x ∷ xs) = None
index_of (b ∷ bs) [] = None

-- the element at these subscripts
abbrev pub element_at : List Bounds → Description → List ℤ → Option PlacedPart
element_at bounds element xs =
    option_map (λ k. record { offset = k * stride_of element; description = element }) (index_of bounds xs)

-- the part that one step leads to
abbrev pub part_at : Description → PathStep → Option PlacedPart
part_at (Structure members) (Member i) = member_after 0 members i
part_at (Array bounds element) (Element xs) = element_at bounds element xs
part_at d s = None

-- the part that a path of steps leads to
abbrev pub place_of : Description → List PathStep → Option PlacedPart
place_of d [] = Some (record { offset = 0; description = d })
place_of d (s ∷ path) =
    option_and_then (λ p. option_map (moved p.offset) (place_of p.description path)) (part_at d s)
