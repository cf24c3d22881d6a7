-- A path, step by step.
use Rattle.std.proofs.Common.{◌≡◌, ℕ, ◌+◌, List, [], ◌∷◌, Option, Some, None, option_map, refl, ap, sym, ◌∙◌, zero-add, add-zero, add_assoc}
use Rattle.pli_map.specs.Description.{Description}
use Rattle.pli_map.specs.Parts.{PathStep, PlacedPart, part_at, moved, place_of}

abbrev pub standing : Description → ℕ → PlacedPart
standing d n = record { offset = n; description = d }

pub moved_by_none : (o : Option PlacedPart) → option_map (moved 0) o ≡ o
moved_by_none None = refl
moved_by_none (Some p) = ap (λ n. Some (standing p.description n)) (zero-add p.offset)

moved_twice : (m n : ℕ) (o : Option PlacedPart) → option_map (moved m) (option_map (moved n) o) ≡ option_map (moved (m + n)) o
moved_twice m n None = refl
moved_twice m n (Some p) = ap (λ k. Some (standing p.description k)) (sym (add_assoc m n p.offset))

-- what is left of a path, one step further
pub further : (whole : Option PlacedPart) (d : Description) (left : List PathStep) (s : PathStep) (path : List PathStep) (offset : ℕ) (p : PlacedPart) → left ≡ s ∷ path → part_at d s ≡ Some p
    → whole ≡ option_map (moved offset) (place_of d left) → whole ≡ option_map (moved (offset + p.offset)) (place_of p.description path)
further whole d left s path offset p left_is step so_far = so_far ∙ rw (left_is, step) (moved_twice offset p.offset (place_of p.description path))

-- a step that leads nowhere
pub nowhere : (whole : Option PlacedPart) (d : Description) (left : List PathStep) (s : PathStep) (path : List PathStep) (offset : ℕ) → left ≡ s ∷ path → part_at d s ≡ None
    → whole ≡ option_map (moved offset) (place_of d left) → whole ≡ None
nowhere whole d left s path offset left_is step so_far = so_far ∙ rw (left_is, step)

-- at the end of the path
pub arrived : (whole : Option PlacedPart) (d : Description) (left : List PathStep) (offset : ℕ) → left ≡ [] → whole ≡ option_map (moved offset) (place_of d left) → whole ≡ Some (standing d offset)
arrived whole d left offset left_is so_far = so_far ∙ rw left_is (ap (λ n. Some (standing d n)) (add-zero offset))
