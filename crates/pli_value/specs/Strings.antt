-- Strings as lists, of characters (each by its code) or of bits, and the operations on them (X3.74, limit
-- own). Places are counted from 0 here, as the places of a list; the language counts them from 1.
use Rattle.std.specs.Prelude.{◌≡◌, ◌<◌, ℕ, zero, suc, ◌+◌, ◌-◌, max, nat_le, nat_eq, Bool, false, not, ◌&&◌}
use Rattle.std.specs.Prelude.{◌||◌, ℤ, pos, negsuc, List, [], ◌∷◌, ◌++◌, length, map, take, drop, replicate}
use Rattle.std.specs.Prelude.{slice_index_or, Option, None, Some, if◌then◌else◌}
use Rattle.std.specs.Option.{option_map}
use Rattle.std.specs.declared.cmp.Ordering.{Ordering}
use Rattle.std.specs.declared.cmp.Ordering.TheVariants.{Equal}
use Rattle.std.specs.Ordering.{ordering_then}
use Rattle.std.specs.List.{range_with_len, starts_with}
use Rattle.memchr.specs.Find.{OccursAt}

-- what an operation gives at each place of two strings, of which the shorter is extended on the right
abbrev pub by_place : {A B : Type 0} → (extension : A) → (A → A → B) → List A → List A → List B
by_place extension f s t =
    map (λ k. f (slice_index_or s k extension) (slice_index_or t k extension))
    (range_with_len 0 (max (length s) (length t)))

-- the first that is not Equal
abbrev pub first_unequal : List Ordering → Ordering
first_unequal [] = Equal
first_unequal (o ∷ os) = ordering_then o (first_unequal os)

-- the order of two strings: that of the elements at the first place where they differ
abbrev pub order_of : {A : Type 0} → (extension : A) → (A → A → Ordering) → List A → List A → Ordering
order_of extension order s t = first_unequal (by_place extension order s t)

-- `&` of bit strings, the shorter extended with zeros
abbrev pub conjunction : List Bool → List Bool → List Bool
conjunction s t = by_place false (λ a b. a && b) s t

-- `|` of bit strings, the shorter extended with zeros
abbrev pub disjunction : List Bool → List Bool → List Bool
disjunction s t = by_place false (λ a b. a || b) s t

-- `^` of a bit string
abbrev pub negation : List Bool → List Bool
negation s = map not s

-- a condition of IF or WHILE holds: a bit of the string is one
abbrev pub is_true : List Bool → Bool
is_true [] = false
is_true (b ∷ bits) = b || is_true bits

-- `||`: one string after the other, where the result has no more than 32,767 elements
abbrev pub concatenation : {A : Type 0} → List A → List A → Option (List A)
concatenation s t = if nat_le (length s + length t) 32767 then Some (s ++ t) else None

-- which part of a string of so many elements SUBSTR means: how many stand before it, and how many it has.
-- Its first place, counted from 1, is at least 1, its length at least 0, and it lies within the string.
abbrev pub part_of : (elements : ℕ) (first count : ℤ) → Option (ℕ × ℕ)
part_of elements (pos (suc before)) (pos count) =
    if nat_le (before + count) elements then Some (before, count) else None
part_of elements (pos (suc before)) (negsuc n) = None
part_of elements (pos zero) count = None
part_of elements (negsuc n) count = None

-- the same without a length: all from the first place on
abbrev pub rest_of : (elements : ℕ) (first : ℤ) → Option (ℕ × ℕ)
rest_of elements (pos (suc before)) =
    if nat_le before elements then Some (before, elements - before) else None
rest_of elements (pos zero) = None
rest_of elements (negsuc n) = None

-- so many elements of a string after so many
abbrev pub piece : {A : Type 0} → List A → (ℕ × ℕ) → List A
piece s part = take part.1 (drop part.0 s)

-- SUBSTR(s, i, n)
abbrev pub substring : {A : Type 0} → List A → (first count : ℤ) → Option (List A)
substring s first count = option_map (piece s) (part_of (length s) first count)

-- SUBSTR(s, i)
abbrev pub substring_from : {A : Type 0} → List A → (first : ℤ) → Option (List A)
substring_from s first = option_map (piece s) (rest_of (length s) first)

-- a string assigned to one of so many elements: cut on the right, or extended there
abbrev pub fitted : {A : Type 0} → (extension : A) → (elements : ℕ) → List A → List A
fitted extension elements s = take elements s ++ replicate (elements - length s) extension

-- the place after one that was counted from the second element on; 0 stays 0
abbrev pub one_after : ℕ → ℕ
one_after zero = zero
one_after (suc k) = suc (suc k)

-- the first place, counted from 1, from which on a string reads as another does; 0 where there is none
abbrev pub first_place : (sought : List ℕ) → List ℕ → ℕ
first_place sought [] = 0
first_place sought (x ∷ xs) =
    if starts_with nat_eq (x ∷ xs) sought then 1 else one_after (first_place sought xs)

-- a string stands in another at a place, and at none before it
abbrev pub StandsFirstAt : (s sought : List ℕ) → (place : ℕ) → Type 0
StandsFirstAt s sought place =
    OccursAt s sought place × ((earlier : ℕ) → earlier < place → ¬ (OccursAt s sought earlier))

-- a string stands in another at no place
abbrev pub StandsNowhere : (s sought : List ℕ) → Type 0
StandsNowhere s sought = (place : ℕ) → ¬ (OccursAt s sought place)

-- INDEX(s, t): 0 where either is empty too
abbrev pub index_of : (s sought : List ℕ) → ℕ
index_of s [] = 0
index_of s (x ∷ xs) = first_place (x ∷ xs) s

-- INDEX counts from 1 the first place at which the sought string stands, and is 0 where it stands nowhere
abbrev pub IndexIsTheFirstPlace : Type 0
IndexIsTheFirstPlace = (s sought : List ℕ) → 0 < length sought
    → ((place : ℕ) → StandsFirstAt s sought place → index_of s sought ≡ place + 1)
    × (StandsNowhere s sought → index_of s sought ≡ 0)
