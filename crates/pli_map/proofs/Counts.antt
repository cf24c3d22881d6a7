-- Counts of elements that stop over the limit.
use Rattle.std.proofs.Common.{◌≡◌, ℕ, zero, suc, ◌+◌, ◌*◌, ◌≤◌, min, arith, refl, ap, sym, ◌∙◌, ◌⊎◌, inl, inr, List, [], ◌∷◌, length, get_or, Option, Some, None, option_map, option_and_then, ℤ, ◌≢◌}
use Rattle.std.proofs.lemmas.Bool.{cases_lt}
use Rattle.pli_map.specs.declared.description.Bounds.{Bounds}
use Rattle.pli_map.specs.Sizes.{extent_of, count_of}
use Rattle.pli_map.specs.Parts.{distance_of, index_of}

cut_below : (limit a m k : ℕ) → a ≤ limit → min (min a limit * m + k) limit ≡ min (a * m + k) limit
cut_below limit a m k h =
    let e : min a limit ≡ a = omega arith in
    rw e

cut_above : (limit a m k : ℕ) → limit ≤ a → min (min a limit * suc m + k) limit ≡ min (a * suc m + k) limit
cut_above limit a m k h =
    let e : min a limit ≡ limit = omega arith in
    rw e (omega arith)

-- a factor that was cut at the limit changes nothing up to it
pub cut_factor : (limit a m k : ℕ) → min (min a limit * m + k) limit ≡ min (a * m + k) limit
cut_factor limit a zero k = omega arith
cut_factor limit a (suc m) k = elim (cases_lt limit a) [ inl h ↦ cut_above limit a m k (omega arith) | inr h ↦ cut_below limit a (suc m) k h ]

-- the number so far, with one dimension more
turned : (i e d c k : ℕ) → min (i * (e * c) + (d * c + k)) 1000001 ≡ min (min (i * e + d) 1000001 * c + k) 1000001
turned i e d c k =
    let cut = cut_factor 1000001 (i * e + d) c k in
    let same : (i * e + d) * c + k ≡ i * (e * c) + (d * c + k) = omega arith in
    sym (cut ∙ ap (λ n. min n 1000001) same)

turned_option : (i e d c : ℕ) (o : Option ℕ)
    → option_map (λ k. min (i * (e * c) + k) 1000001) (option_map (λ k. d * c + k) o) ≡ option_map (λ k. min (min (i * e + d) 1000001 * c + k) 1000001) o
turned_option i e d c None = refl
turned_option i e d c (Some k) = ap Some (turned i e d c k)

pub index_step : (b : Bounds) (bs : List Bounds) (x : ℤ) (xs : List ℤ) (i d : ℕ) → distance_of b x ≡ Some d
    → option_map (λ k. min (i * count_of (b ∷ bs) + k) 1000001) (index_of (b ∷ bs) (x ∷ xs))
    ≡ option_map (λ k. min (min (i * extent_of b + d) 1000001 * count_of bs + k) 1000001) (index_of bs xs)
index_step b bs x xs i d is = rw is (turned_option i (extent_of b) d (count_of bs) (index_of bs xs))

no_more : (c : ℕ) (d : Option ℕ) (o : Option ℕ) → o ≡ None → option_and_then (λ n. option_map (λ k. n * c + k) o) d ≡ None
no_more c None o is = refl
no_more c (Some n) o is = rw is

-- there is no element at another number of subscripts
pub index_unequal : (bs : List Bounds) (xs : List ℤ) → length bs ≢ length xs → index_of bs xs ≡ None
index_unequal [] [] other = absurd (other refl)
index_unequal [] (x ∷ xs) other = refl
index_unequal (b ∷ bs) [] other = refl
index_unequal (b ∷ bs) (x ∷ xs) other = no_more (count_of bs) (distance_of b x) (index_of bs xs) (index_unequal bs xs (λ e. other (ap suc e)))

-- what is left of bounds and subscripts, one further
pub index_left : (whole : Option ℕ) (left : List Bounds) (given : List ℤ) (b : Bounds) (bs : List Bounds) (x : ℤ) (xs : List ℤ) (i d next : ℕ)
    → left ≡ b ∷ bs → given ≡ x ∷ xs → distance_of b x ≡ Some d → next ≡ min (i * extent_of b + d) 1000001
    → whole ≡ option_map (λ k. min (i * count_of left + k) 1000001) (index_of left given)
    → whole ≡ option_map (λ k. min (next * count_of bs + k) 1000001) (index_of bs xs)
index_left whole left given b bs x xs i d next left_is given_is distance next_is so_far =
    so_far ∙ rw (left_is, given_is) (index_step b bs x xs i d distance)
    ∙ ap (λ n. option_map (λ k. min (n * count_of bs + k) 1000001) (index_of bs xs)) (sym next_is)

-- a subscript that is out of its bounds leads to no element
pub index_outside : (whole : Option ℕ) (left : List Bounds) (given : List ℤ) (b : Bounds) (bs : List Bounds) (x : ℤ) (xs : List ℤ) (f : ℕ → ℕ)
    → left ≡ b ∷ bs → given ≡ x ∷ xs → distance_of b x ≡ None → whole ≡ option_map f (index_of left given) → whole ≡ None
index_outside whole left given b bs x xs f left_is given_is distance so_far = so_far ∙ rw (left_is, given_is, distance)

empty : {A : Type 0} (xs : List A) → length xs ≡ 0 → xs ≡ []
empty [] e = refl
empty (x ∷ xs) e = absurd (omega arith)

-- with no subscript left the number is that of all
pub index_done : (whole : Option ℕ) (left : List Bounds) (given : List ℤ) (i : ℕ) → length left ≡ length given → (length left ≡ 0) ⊎ (length given ≡ 0)
    → i ≤ 1000001 → whole ≡ option_map (λ k. min (i * count_of left + k) 1000001) (index_of left given) → whole ≡ Some i
index_done whole left given i lengths either limit so_far =
    let none : length left ≡ 0 = elim either [ inl h ↦ h | inr h ↦ lengths ∙ h ] in
    let none_given : length given ≡ 0 = sym lengths ∙ none in
    let i_is : min (i * 1 + 0) 1000001 ≡ i = omega arith in
    so_far ∙ rw (empty left none, empty given none_given) (ap Some i_is)

-- a count so far, with one dimension more
pub count_left : (whole count extent others left next : ℕ) → next ≡ min (count * extent) 1000001 → left ≡ extent * others
    → min (count * left) 1000001 ≡ min whole 1000001 → min (next * others) 1000001 ≡ min whole 1000001
count_left whole count extent others left next next_is left_is so_far =
    let cut = cut_factor 1000001 (count * extent) others 0 in
    let same : count * extent * others + 0 ≡ count * left = rw left_is (omega arith) in
    let plain : min (count * extent) 1000001 * others + 0 ≡ next * others = rw next_is (omega arith) in
    ap (λ n. min n 1000001) (sym plain) ∙ cut ∙ ap (λ n. min n 1000001) same ∙ so_far

-- an array of one dimension has as many elements as that has subscripts
pub one_dimension : (bounds : List Bounds) (none : Bounds) → length bounds ≡ 1 → extent_of (get_or bounds 0 none) ≡ count_of bounds
one_dimension [] none one = absurd (omega (arith, one))
one_dimension (b ∷ []) none one = omega arith
one_dimension (b ∷ c ∷ bs) none one = absurd (omega (arith, one))
