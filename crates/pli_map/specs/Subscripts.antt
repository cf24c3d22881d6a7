-- The subscripts of a path, those of all levels in turn, and the path to the first element in place of the
-- one that they name (own). A part stands after that first one by so many bytes for each subscript.
use Rattle.std.specs.Prelude.{ℕ, ◌*◌, ◌==◌, Bool, true, ◌&&◌, ℤ, ◌-ℤ◌, ◌≤ℤ◌, unsigned_abs, List, [], ◌∷◌}
use Rattle.std.specs.Prelude.{◌++◌, map, length, option_map}
use Rattle.std.specs.Option.{unwrap_or}
use Rattle.pli_map.specs.declared.description.Bounds.{Bounds}
use Rattle.pli_map.specs.Description.{Description, Array}
use Rattle.pli_map.specs.Parts.{PathStep, Element, part_at}
use Rattle.pli_map.specs.Sizes.{count_of, stride_of}

-- a subscript with the bounds of its dimension, and with how many bytes lie from an element to the next in
-- that dimension
pub record Subscript : Type 0 where
  pub bounds : Bounds
  pub multiplier : ℕ
  pub subscript : ℤ

-- a subscript lies within the bounds of its dimension
abbrev pub IsWithin : Subscript → Type 0
IsWithin s = (s.bounds.low ≤ℤ s.subscript) × (s.subscript ≤ℤ s.bounds.high)

-- by how many bytes a subscript leads after the first element of its dimension
abbrev pub bytes_passed : Subscript → ℕ
bytes_passed s = unsigned_abs (s.subscript -ℤ s.bounds.low) * s.multiplier

-- the subscripts of an array of such bounds, whose elements are so many bytes apart: elements that differ in
-- one dimension alone are apart by as many elements as the dimensions after it have
abbrev pub subscripts_in : List Bounds → (stride : ℕ) → List ℤ → List Subscript
subscripts_in (b ∷ bs) stride (x ∷ xs) =
    record { bounds = b; multiplier = count_of bs * stride; subscript = x } ∷ subscripts_in bs stride xs
subscripts_in bs stride xs = []

-- those of one step
abbrev pub step_subscripts : Description → PathStep → List Subscript
step_subscripts (Array bounds element) (Element xs) = subscripts_in bounds (stride_of element) xs
step_subscripts d s = []

-- a step with each subscript at its lower bound
abbrev pub first_step : Description → PathStep → PathStep
first_step (Array bounds element) (Element xs) = Element (map (λ b. b.low) bounds)
first_step d s = s

-- a path with each subscript at its lower bound: it leads to the first element
abbrev pub first_path : Description → List PathStep → List PathStep
first_path d [] = []
first_path d (s ∷ path) =
    first_step d s
    ∷ unwrap_or (option_map (λ p. first_path p.description path) (part_at d (first_step d s))) []

-- all subscripts of a path, in order
abbrev pub subscripts_of : Description → List PathStep → List Subscript
subscripts_of d [] = []
subscripts_of d (s ∷ path) = step_subscripts d s
    ++ unwrap_or (option_map (λ p. subscripts_of p.description path) (part_at d (first_step d s))) []

-- a step to an element has one subscript for each dimension
abbrev pub step_has_subscripts : Description → PathStep → Bool
step_has_subscripts (Array bounds element) (Element xs) = length xs == length bounds
step_has_subscripts d s = true

-- so has each step of a path
abbrev pub has_subscripts : Description → List PathStep → Bool
has_subscripts d [] = true
has_subscripts d (s ∷ path) = step_has_subscripts d s
    && unwrap_or (option_map (λ p. has_subscripts p.description path) (part_at d (first_step d s))) true
