-- Two lists that are sorted, and in which those that tie stand alike, are one.
use Rattle.std.proofs.Common.{◌≡◌, ℕ, suc, ◌+◌, ◌<◌, Bool, true, false, not, cond, ◌&&◌, List, [], ◌∷◌, length, get_or, filter, refl, sym, ap, ◌∙◌, arith, IsSortedByKey}
use Rattle.std.proofs.Common.{Ordering, Less, Equal, Greater, is_lt}
use Rattle.std.specs.Cmp.{IsTotalOrder}
use Rattle.std.specs.List.Sorted.{IsStableByKey}
use Rattle.std.specs.Ordering.{ordering_reverse}
use Rattle.std.proofs.lemmas.List.Sorted.{sorted_far, ranks_by}
use Rattle.pli_sort.specs.Sorting.{in_order}
use Rattle.pli_sort.proofs.SortedLemmas as order
use Rattle.pli_sort.proofs.SortedLemmas.{items_are_sorted}

module _ {X K : Type 0} (key : X → K) (cmp : K → K → Ordering) (total : IsTotalOrder cmp) where
  abbrev by_key : X → X → Ordering
  by_key = order.by_key key cmp total

  abbrev below : X → X → Bool
  below = order.below key cmp total

  abbrev tied : X → X → Bool
  tied = order.tied key cmp total

  -- none of these is below one
  abbrev NoneBelow : X → List X → Type 0
  NoneBelow x [] = Unit {0}
  NoneBelow x (y ∷ ys) = (below y x ≡ false) × NoneBelow x ys

  abbrev Sorted : List X → Type 0
  Sorted [] = Unit {0}
  Sorted (x ∷ xs) = NoneBelow x xs × Sorted xs

  none_below : (x : X) (ys : List X) → ((k : ℕ) (d : X) → k < length ys → below (get_or ys k d) x ≡ false) → NoneBelow x ys
  none_below x [] h = tt
  none_below x (y ∷ ys) h = (h 0 y (omega arith), none_below x ys (λ k d lt. h (suc k) d (omega arith)))

  sorted_from_key : (xs : List X) → IsSortedByKey key cmp xs → Sorted xs
  sorted_from_key [] up = tt
  sorted_from_key (x ∷ xs) up = (
    none_below x xs (λ k d lt. sorted_far below (ranks_by total key) (x ∷ xs) up 0 (suc k) d (omega arith) (omega arith)),
    sorted_from_key xs (λ k d low high. let e : suc (k + 1) ≡ suc k + 1 = omega arith in ap (λ n. below (get_or (x ∷ xs) n d) (get_or xs k d)) e ∙ up (suc k) d (omega arith) (omega arith)),
  )

  equal_to_itself : (o : Ordering) → o ≡ ordering_reverse o → o ≡ Equal
  equal_to_itself Less e = cc
  equal_to_itself Equal e = refl
  equal_to_itself Greater e = cc

  alike : (x : X) → by_key x x ≡ Equal
  alike x = equal_to_itself (by_key x x) (total.antisymm (key x) (key x))

  ties_itself : (x : X) → tied x x ≡ true
  ties_itself x = ap (λ o. not (is_lt o) && not (is_lt o)) (alike x)

  not_below_itself : (x : X) → below x x ≡ false
  not_below_itself x = ap is_lt (alike x)

  -- what ties with one of those that are not below another is not below that
  not_before : (x y : X) (zs : List X) → NoneBelow y zs → (filter (tied x) zs ≡ [] → ⊥) → below x y ≡ false
  not_before x y [] none some = absurd (some refl)
  not_before x y (z ∷ zs) none some = by (tied x z) refl (λ e. not_before x y zs none.1 (λ f. some (ap (λ b. cond b (z ∷ filter (tied x) zs) (filter (tied x) zs)) e ∙ f)))
    where
      by : (b : Bool) → tied x z ≡ b → (tied x z ≡ false → below x y ≡ false) → below x y ≡ false
      by true e later = ap is_lt (total.congr (key x) (key z) (key y) (order.equal_from_tie key cmp total x z e)) ∙ none.0
      by false e later = later e

  -- one that ties stands first among those that tie
  kept_first : (x : X) (y : X) (ys : List X) → tied x y ≡ true → filter (tied x) (y ∷ ys) ≡ y ∷ filter (tied x) ys
  kept_first x y ys e = ap (λ b. cond b (y ∷ filter (tied x) ys) (filter (tied x) ys)) e

  some_kept : (x : X) (xs ys : List X) → filter (tied x) (x ∷ xs) ≡ filter (tied x) ys → filter (tied x) ys ≡ [] → ⊥
  some_kept x xs ys same none =
      let e : x ∷ filter (tied x) xs ≡ [] = sym (kept_first x x xs (ties_itself x)) ∙ same ∙ none in
      cc

  first_is : (x y : X) (xs ys : List X) → x ∷ xs ≡ y ∷ ys → x ≡ y
  first_is x y xs ys e = cc

  rest_is : (b : Bool) (x y : X) (xs ys : List X) → x ≡ y → cond b (x ∷ xs) xs ≡ cond b (y ∷ ys) ys → xs ≡ ys
  rest_is true x y xs ys e f = cc
  rest_is false x y xs ys e f = f

  sorted_once : (xs ys : List X) → Sorted xs → Sorted ys → ((z : X) → filter (tied z) xs ≡ filter (tied z) ys) → xs ≡ ys
  sorted_once [] [] up upper same = refl
  sorted_once [] (y ∷ ys) up upper same = absurd (some_kept y ys [] (sym (same y)) refl)
  sorted_once (x ∷ xs) [] up upper same = absurd (some_kept x xs [] (same x) refl)
  sorted_once (x ∷ xs) (y ∷ ys) up upper same =
      let ahead : below x y ≡ false = not_before x y (y ∷ ys) (not_below_itself y, upper.0) (some_kept x xs (y ∷ ys) (same x)) in
      let after : below y x ≡ false = not_before y x (x ∷ xs) (not_below_itself x, up.0) (some_kept y ys (x ∷ xs) (sym (same y))) in
      let tie : tied x y ≡ true = ap (λ b. not b && not (below y x)) ahead ∙ ap (λ b. not b) after in
      let first : x ≡ y = first_is x y _ _ (sym (kept_first x x xs (ties_itself x)) ∙ same x ∙ kept_first x y ys tie) in
      let rest : (z : X) → filter (tied z) xs ≡ filter (tied z) ys =
      λ z. rest_is (tied z x) x y (filter (tied z) xs) (filter (tied z) ys) first (same z ∙ ap (λ (w : X). cond (tied z w) (y ∷ filter (tied z) ys) (filter (tied z) ys)) (sym first)) in
      ap (λ l. x ∷ l) (sorted_once xs ys up.1 upper.1 rest) ∙ ap (λ (w : X). w ∷ ys) first

  -- what a stable sort gives
  pub in_order_from_sort : (xs ys : List X) → IsSortedByKey key cmp ys → IsStableByKey key cmp xs ys → ys ≡ in_order key cmp xs
  in_order_from_sort xs ys sorted stable =
      let sorts = items_are_sorted key cmp total xs in
      sorted_once ys (in_order key cmp xs) (sorted_from_key ys sorted) (sorted_from_key (in_order key cmp xs) sorts.rising) (λ z. stable z ∙ sym (sorts.stable z))
