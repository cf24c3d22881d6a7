-- What the definitions of sizes and parts amount to.
use Rattle.std.specs.Prelude.{◌≡◌, ◌≢◌, ℕ, ◌+◌, ◌%◌, ◌<◌, ◌≤◌, ◌⊎◌, ◌↔◌, ℤ, ◌<ℤ◌, ◌≤ℤ◌, Some, IsSome, IsTrue}
use Rattle.std.specs.Prelude.{List, [], ◌∷◌, ◌++◌}
use Rattle.std.specs.Int.{next_multiple_of}
use Rattle.pli_map.specs.declared.description.Bounds.{Bounds}
use Rattle.pli_map.specs.Description.{Description, area}
use Rattle.pli_map.specs.Same.{same}
use Rattle.pli_map.specs.Sizes.{alignment_of, count_of, size_of}
use Rattle.pli_map.specs.Parts.{PathStep, PlacedPart, index_of, place_of}

-- the bytes of one part end before those of the other begin
abbrev pub Apart : PlacedPart → PlacedPart → Type 0
Apart p q = (p.offset + size_of p.description ≤ q.offset) ⊎ (q.offset + size_of q.description ≤ p.offset)

-- two parts do not meet, where their paths part: after a beginning that they share, one goes to another
-- member or element than the other
abbrev pub PartsDoNotMeet : Type 0
PartsDoNotMeet =
    (d : Description) (shared path others : List PathStep) (s t : PathStep) (p q : PlacedPart) → s ≢ t
    → place_of d (shared ++ s ∷ path) ≡ Some p → place_of d (shared ++ t ∷ others) ≡ Some q → Apart p q

-- a part lies within the whole
abbrev pub PartsLieWithin : Type 0
PartsLieWithin =
    (d : Description) (path : List PathStep) (p : PlacedPart) → place_of d path ≡ Some p → p.offset
    + size_of p.description ≤ size_of d

-- where the whole stands at a multiple of its alignment, so does each part of its own
abbrev pub PartsStandAligned : Type 0
PartsStandAligned =
    (d : Description) (path : List PathStep) (p : PlacedPart) (at : ℕ) → at % alignment_of d ≡ 0
    → place_of d path ≡ Some p
    → (at + p.offset) % alignment_of p.description ≡ 0

-- an alignment is 1, 2, 4 or 8
abbrev pub FourAlignments : Type 0
FourAlignments =
    (d : Description) → (alignment_of d ≡ 1) ⊎ (alignment_of d ≡ 2) ⊎ (alignment_of d ≡ 4)
    ⊎ (alignment_of d ≡ 8)

-- AREA(n) is AREA(m), where m is n or else the next multiple of 8
abbrev pub AreasAreRounded : Type 0
AreasAreRounded = (n : ℕ) → area n ≡ area (next_multiple_of n 8)

-- one subscript for each dimension, within its bounds
abbrev pub WithinBounds : List Bounds → List ℤ → Type 0
WithinBounds [] [] = Unit {0}
WithinBounds (b ∷ bs) (x ∷ xs) = (b.low ≤ℤ x) × (x ≤ℤ b.high) × WithinBounds bs xs
WithinBounds [] (x ∷ xs) = ⊥
WithinBounds (b ∷ bs) [] = ⊥

-- there is an element exactly where there is one subscript for each dimension, within its bounds
abbrev pub ElementsAreWithinBounds : Type 0
ElementsAreWithinBounds = (bs : List Bounds) (xs : List ℤ) → IsSome (index_of bs xs) ↔ WithinBounds bs xs

-- elements stand in the order of their first subscripts, of the second where the first are the same, and so
-- on: the last varies fastest
abbrev pub ElementsAreInRowMajorOrder : Type 0
ElementsAreInRowMajorOrder = (bs : List Bounds) (shared xs ys : List ℤ) (x y : ℤ) (k l : ℕ) → x <ℤ y
    → index_of bs (shared ++ x ∷ xs) ≡ Some k → index_of bs (shared ++ y ∷ ys) ≡ Some l → k < l

-- an element is one of as many as the array has
abbrev pub ElementsAreCounted : Type 0
ElementsAreCounted = (bs : List Bounds) (xs : List ℤ) (k : ℕ) → index_of bs xs ≡ Some k → k < count_of bs

-- the test for equality says what it is named for
abbrev pub SameIsEqual : Type 0
SameIsEqual = (d e : Description) → IsTrue (same d e) ↔ (d ≡ e)
