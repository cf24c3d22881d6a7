-- Numbers in the order of the text, and the places at which they stand.
use Rattle.std.proofs.Common.{◌≡◌, ℕ, zero, suc, ◌+◌, ◌<◌, ◌≤◌, true, false, nat_eq, Some, List, [], ◌∷◌, ◌++◌, map, length, get_or, slice_get, refl, sym, ap, ◌∙◌, arith, inl, inr}
use Rattle.std.specs.List.{All, Contains}
use Rattle.std.proofs.lemmas.Bool.{cond-true, cond-false, cases_Bool, eqb-true, eqb-false}
use Rattle.std.proofs.lemmas.List.{length-map}
use Rattle.std.proofs.lemmas.List.Elements.{All-cons, All-nil}
use Rattle.std.proofs.lemmas.List.Sorted.{All-permutation, Contains-permutation, length_permutation}
use Rattle.std.proofs.lemmas.Option.{none-some, same_Some}
use Rattle.std.specs.List.Sorted.{IsPermutation}
use Rattle.std.specs.Ordering.{nat_cmp}
use Rattle.std.proofs.lemmas.Cmp.{nat_cmp_total}
use Rattle.pli_sort.proofs.CorrespondLemmas.{AllBoth, both_in_order}
use Rattle.pli_sort.proofs.SortedLemmas.{items_are_sorted}
use Rattle.pli_type_rules.specs.TextOrder.{in_order, numbers_from, place_from, text_order, text_places}

-- ---- numbers

pub numbers_counted : (from count : ℕ) → length (numbers_from from count) ≡ count
numbers_counted from zero = refl
numbers_counted from (suc count) = ap suc (numbers_counted (suc from) count)

pub numbers_more : (from count : ℕ) → numbers_from from count ++ (from + count) ∷ [] ≡ numbers_from from (suc count)
numbers_more from zero = let same : from + zero ≡ from = omega arith in ap (λ n. n ∷ []) same
numbers_more from (suc count) =
    let same : from + suc count ≡ suc from + count = omega arith in
    ap (λ n. from ∷ (numbers_from (suc from) count ++ n ∷ [])) same ∙ ap (λ ns. from ∷ ns) (numbers_more (suc from) count)

below_from : (bound from count : ℕ) → from + count ≤ bound → All (λ n. n < bound) (numbers_from from count)
below_from bound from zero h = All-nil (λ n. n < bound)
below_from bound from (suc count) h =
    All-cons (λ n. n < bound) from (numbers_from (suc from) count) (omega (arith, h)) (below_from bound (suc from) count (omega (arith, h)))

contained : (count i k : ℕ) (from : ℕ) → from + i ≡ k → i < count → (d : ℕ) → get_or (numbers_from from count) i d ≡ k
contained zero i k from e h d = absurd (omega (arith, h))
contained (suc count) zero k from e h d = omega (arith, e)
contained (suc count) (suc i) k from e h d = contained count i k (suc from) (omega (arith, e)) (omega (arith, h)) d

-- what each number gives
pub numbers_alike : {A : Type 0} (f g : ℕ → A) (from count : ℕ) → ((n : ℕ) → from ≤ n → n < from + count → f n ≡ g n)
    → map f (numbers_from from count) ≡ map g (numbers_from from count)
numbers_alike f g from zero h = refl
numbers_alike f g from (suc count) h =
    ap (λ x. x ∷ map f (numbers_from (suc from) count)) (h from (omega arith) (omega arith))
    ∙ ap (λ xs. g from ∷ xs) (numbers_alike f g (suc from) count (λ n low high. h n (omega (arith, low)) (omega (arith, high))))

pub given_under : {A : Type 0} (f : ℕ → A) (from count i k : ℕ) (d : A) → from + i ≡ k → i < count → get_or (map f (numbers_from from count)) i d ≡ f k
given_under f from zero i k d e h = absurd (omega (arith, h))
given_under f from (suc count) zero k d e h = let same : from ≡ k = omega (arith, e) in ap f same
given_under f from (suc count) (suc i) k d e h = given_under f (suc from) count i k d (omega (arith, e)) (omega (arith, h))

-- ---- places

-- in the order of the text there are the same items
pub same_items : {A : Type 0} (token : A → ℕ) (xs : List A) → IsPermutation xs (in_order token xs)
same_items token xs = let sorts = items_are_sorted token nat_cmp nat_cmp_total xs in sorts.same_items

-- the order of the text has the numbers of all tokens
pub order_counted : (tokens : List ℕ) → length (text_order tokens) ≡ length tokens
order_counted tokens =
    length_permutation _ _ (same_items (λ n. get_or tokens n 0) (numbers_from 0 (length tokens))) ∙ numbers_counted 0 (length tokens)

pub order_below : (tokens : List ℕ) → All (λ n. n < length tokens) (text_order tokens)
order_below tokens =
    All-permutation (λ n. n < length tokens) _ _ (same_items (λ n. get_or tokens n 0) (numbers_from 0 (length tokens)))
    (below_from (length tokens) 0 (length tokens) (omega arith))

order_contains : (tokens : List ℕ) (k : ℕ) → k < length tokens → Contains (text_order tokens) k
order_contains tokens k h =
    Contains-permutation _ _ k (same_items (λ n. get_or tokens n 0) (numbers_from 0 (length tokens)))
    (k, omega (arith, h, numbers_counted 0 (length tokens)), contained (length tokens) k k 0 (omega arith) h k)

-- one number in front of others
pub place_here : (from k n : ℕ) (ns : List ℕ) → nat_eq n k ≡ true → place_from from k (n ∷ ns) ≡ from
place_here from k n ns e = cond-true _ _ _ e

pub place_later : (from k n : ℕ) (ns : List ℕ) → nat_eq n k ≡ false → place_from from k (n ∷ ns) ≡ place_from (suc from) k ns
place_later from k n ns e = cond-false _ _ _ e

-- a number stands at its place
abbrev Stands : (k : ℕ) → List ℕ → (from : ℕ) → Type 0
Stands k ns from = (j : ℕ) × (place_from from k ns ≡ from + j) × (slice_get ns j ≡ Some k)

stands_later : (k n : ℕ) (ns : List ℕ) (i from : ℕ) → i < length (n ∷ ns) → get_or (n ∷ ns) i k ≡ k → nat_eq n k ≡ false
    → ((i : ℕ) → i < length ns → get_or ns i k ≡ k → Stands k ns (suc from)) → Stands k (n ∷ ns) from
stands_later k n ns zero from h e other rest = absurd (eqb-false n k other e)
stands_later k n ns (suc i) from h e other rest =
    let r : Stands k ns (suc from) = rest i (omega (arith, h)) e in
    (suc r.0, omega (arith, place_later from k n ns other, r.1), r.2)

stands_at : (k : ℕ) (ns : List ℕ) (i from : ℕ) → i < length ns → get_or ns i k ≡ k → Stands k ns from
stands_at k [] i from h e = absurd (omega (arith, h))
stands_at k (n ∷ ns) i from h e =
    elim (cases_Bool (nat_eq n k)) [
      | inl here ↦ (0, omega (arith, place_here from k n ns here), ap Some (eqb-true n k here))
      | inr other ↦ stands_later k n ns i from h e other (λ m low same. stands_at k ns m (suc from) low same)
    ]

-- ---- items in the order of the text

all_numbered : {A : Type 0} (whole : List A) (from : ℕ) (xs : List A) → ((i : ℕ) → slice_get whole (from + i) ≡ slice_get xs i)
    → AllBoth (λ k x. slice_get whole k ≡ Some x) (numbers_from from (length xs)) xs
all_numbered whole from [] h = tt
all_numbered whole from (x ∷ xs) h =
    let here : from ≡ from + 0 = omega arith in (
      ap (slice_get whole) here ∙ h 0,
      all_numbered whole (suc from) xs
          (λ i. let next : suc from + i ≡ from + suc i = omega arith in ap (slice_get whole) next ∙ h (suc i)),
    )

both_at : {A B : Type 0} (R : A → B → Type 0) (xs : List A) (ys : List B) (j : ℕ) (x : A) → AllBoth R xs ys → slice_get xs j ≡ Some x
    → (y : B) × (slice_get ys j ≡ Some y) × R x y
both_at R [] [] j x all e = absurd (none-some x e)
both_at R [] (y ∷ ys) j x all e = absurd all
both_at R (z ∷ xs) [] j x all e = absurd all
both_at R (z ∷ xs) (y ∷ ys) zero x all e = (y, refl, subst_first (same_Some z x e) all.0)
  where
    subst_first : z ≡ x → R z y → R x y
    subst_first is h = rw (sym is) h
both_at R (z ∷ xs) (y ∷ ys) (suc j) x all e = both_at R xs ys j x all.1 e

token_given : {A : Type 0} (at : A → ℕ) (xs : List A) (k : ℕ) (x : A) → slice_get xs k ≡ Some x → get_or (map at xs) k 0 ≡ at x
token_given at [] k x e = absurd (none-some x e)
token_given at (y ∷ xs) zero x e = ap at (same_Some y x e)
token_given at (y ∷ xs) (suc k) x e = token_given at xs k x e

there_within : {A : Type 0} (xs : List A) (k : ℕ) (x : A) → slice_get xs k ≡ Some x → k < length xs
there_within [] k x e = absurd (none-some x e)
there_within (y ∷ xs) zero x e = omega arith
there_within (y ∷ xs) (suc k) x e = omega (arith, there_within xs k x e)

module _ {A : Type 0} (at : A → ℕ) (xs : List A) where
  -- what stands at the place of a number is the item of this number
  pub stands_in_text : (k : ℕ) (x : A) → slice_get xs k ≡ Some x → slice_get (in_order at xs) (get_or (text_places (map at xs)) k 0) ≡ Some x
  stands_in_text k x e =
      let counted : length (map at xs) ≡ length xs = length-map xs at in
      let within : k < length (map at xs) = omega (arith, counted, there_within xs k x e) in
      let R : ℕ → A → Type 0 = λ n y. slice_get xs n ≡ Some y in
      let order = text_order (map at xs) in
      let placed : get_or (text_places (map at xs)) k 0 ≡ place_from 0 k order =
      given_under (λ n. place_from 0 n order) 0 (length (map at xs)) k k 0 (omega arith) within in
      let c : Contains order k = order_contains (map at xs) k within in
      let s = stands_at k order c.0 0 c.1 c.2 in
      let all : AllBoth R (numbers_from 0 (length xs)) xs = all_numbered xs 0 xs (λ i. ap (slice_get xs) (omega arith)) in
      let numbered : AllBoth R (numbers_from 0 (length (map at xs))) xs = rw counted all in
      let both : AllBoth R order (in_order at xs) =
      both_in_order nat_cmp R (λ n. get_or (map at xs) n 0) at (λ n y h. token_given at xs n y h) [] (numbers_from 0 (length (map at xs))) [] xs tt numbered in
      let found = both_at R order (in_order at xs) s.0 k both s.2 in
      let place_is : get_or (text_places (map at xs)) k 0 ≡ s.0 = omega (arith, placed, s.1) in
      ap (slice_get (in_order at xs)) place_is ∙ found.1 ∙ ap Some (same_Some found.0 x (sym found.2 ∙ e))
