-- Items that are put in one after another are sorted.
use Rattle.std.proofs.Common.{◌≡◌, ℕ, zero, suc, ◌<◌, Bool, true, false, not, cond, ◌&&◌, if◌then◌else◌, List, [], ◌∷◌, ◌++◌, length, get_or, filter, refl, sym, ap, ◌∙◌, subst, arith, add-one, append_assoc, append-nil, true≢false, IsPermutation, IsSortedByKey}
use Rattle.std.proofs.Common.{Ordering, Less, Equal, Greater, is_lt, is_gt}
use Rattle.std.specs.Cmp.{IsTotalOrder}
use Rattle.std.specs.Ordering.{ordering_reverse}
use Rattle.std.specs.List.Sorted.{ties}
use Rattle.std.proofs.lemmas.Cmp.{alike_right}
use Rattle.std.proofs.lemmas.List.Elements.{filter-append}
use Rattle.std.proofs.lemmas.List.Sorted.{IsPermutation-refl, IsPermutation-cons, IsPermutation-trans, IsPermutation-sym, IsPermutation-middle, IsPermutation-append_left}
use Rattle.pli_sort.specs.Sorting.{inserted, in_order, in_order_after}
use Rattle.pli_sort.specs.laws.SortingLaws.{Sorts}

module _ {X K : Type 0} (key : X → K) (cmp : K → K → Ordering) (total : IsTotalOrder cmp) where
  abbrev pub by_key : X → X → Ordering
  by_key x y = cmp (key x) (key y)

  abbrev pub below : X → X → Bool
  below x y = is_lt (by_key x y)

  abbrev past : X → X → Bool
  past x y = is_gt (by_key x y)

  turned : (x y : X) → by_key x y ≡ ordering_reverse (by_key y x)
  turned x y = total.antisymm (key x) (key y)

  past_not_below : (o : Ordering) → is_gt o ≡ true → is_lt o ≡ false
  past_not_below Less h = absurd (true≢false (sym h))
  past_not_below Equal h = refl
  past_not_below Greater h = refl

  reversed_not_below : (o : Ordering) → is_gt o ≡ false → is_lt (ordering_reverse o) ≡ false
  reversed_not_below Less h = refl
  reversed_not_below Equal h = refl
  reversed_not_below Greater h = absurd (true≢false h)

  not_past : (x y : X) → past x y ≡ false → below y x ≡ false
  not_past x y h = ap is_lt (turned y x) ∙ reversed_not_below (by_key x y) h

  -- ---- the same items

  put_in : (p : X) (qs : List X) → IsPermutation (p ∷ qs) (inserted key cmp p qs)
  put_in p [] = IsPermutation-refl (p ∷ [])
  put_in p (q ∷ qs) = by (past q p) (put_in p qs)
    where
      by : (b : Bool) → IsPermutation (p ∷ qs) (inserted key cmp p qs) → IsPermutation (p ∷ q ∷ qs) (if b then p ∷ q ∷ qs else q ∷ inserted key cmp p qs)
      by true same = IsPermutation-refl (p ∷ q ∷ qs)
      by false same = IsPermutation-trans _ _ _ (IsPermutation-sym _ _ (IsPermutation-middle (q ∷ []) p qs)) (IsPermutation-cons q _ _ same)

  all_put_in : (sorted ps : List X) → IsPermutation (sorted ++ ps) (in_order_after key cmp sorted ps)
  all_put_in sorted [] = subst (λ l. IsPermutation l sorted) (sym (append-nil sorted)) (IsPermutation-refl sorted)
  all_put_in sorted (p ∷ ps) =
      IsPermutation-trans _ _ _
      (IsPermutation-trans _ _ _ (IsPermutation-middle sorted p ps) (IsPermutation-append_left ps (p ∷ sorted) (inserted key cmp p sorted) (put_in p sorted)))
      (all_put_in (inserted key cmp p sorted) ps)

  -- ---- none is before the one in front of it

  abbrev RisesFrom : X → List X → Type 0
  RisesFrom x [] = Unit {0}
  RisesFrom x (y ∷ ys) = (below y x ≡ false) × RisesFrom y ys

  abbrev Rises : List X → Type 0
  Rises [] = Unit {0}
  Rises (x ∷ xs) = RisesFrom x xs

  after_first : (x : X) (ys : List X) → RisesFrom x ys → Rises ys
  after_first x [] up = tt
  after_first x (y ∷ ys) up = up.1

  inserted_from : (p x : X) (ys : List X) → below p x ≡ false → RisesFrom x ys → RisesFrom x (inserted key cmp p ys)
  inserted_from p x [] h up = (h, tt)
  inserted_from p x (y ∷ ys) h up = by (past y p) refl (λ e. inserted_from p y ys (not_past y p e) up.1)
    where
      by : (b : Bool) → past y p ≡ b → (past y p ≡ false → RisesFrom y (inserted key cmp p ys)) → RisesFrom x (if b then p ∷ y ∷ ys else y ∷ inserted key cmp p ys)
      by true e later = (h, (past_not_below (by_key y p) e, up.1))
      by false e later = (up.0, later e)

  inserted_rises : (p : X) (qs : List X) → Rises qs → Rises (inserted key cmp p qs)
  inserted_rises p [] up = tt
  inserted_rises p (q ∷ qs) up = by (past q p) refl
    where
      by : (b : Bool) → past q p ≡ b → Rises (if b then p ∷ q ∷ qs else q ∷ inserted key cmp p qs)
      by true e = (past_not_below (by_key q p) e, up)
      by false e = inserted_from p q qs (not_past q p e) up

  all_rise : (sorted ps : List X) → Rises sorted → Rises (in_order_after key cmp sorted ps)
  all_rise sorted [] up = up
  all_rise sorted (p ∷ ps) up = all_rise (inserted key cmp p sorted) ps (inserted_rises p sorted up)

  next_not_below : (x : X) (ys : List X) → RisesFrom x ys → (k : ℕ) (d : X) → k < length ys → below (get_or (x ∷ ys) (suc k) d) (get_or (x ∷ ys) k d) ≡ false
  next_not_below x [] up k d lt = absurd (omega arith)
  next_not_below x (y ∷ ys) up zero d lt = up.0
  next_not_below x (y ∷ ys) up (suc k) d lt = next_not_below y ys up.1 k d (omega arith)

  sorted_from : (xs : List X) → Rises xs → IsSortedByKey key cmp xs
  sorted_from [] up = λ k d low high. absurd (omega arith)
  sorted_from (x ∷ xs) up = λ k d low high. ap (λ n. below (get_or (x ∷ xs) n d) (get_or (x ∷ xs) k d)) (add-one k) ∙ next_not_below x xs up k d (omega arith)

  -- ---- those of one key stay as they stood

  tie_is_equal : (o : Ordering) → not (is_lt o) && not (is_lt (ordering_reverse o)) ≡ true → o ≡ Equal
  tie_is_equal Less h = absurd (true≢false (sym h))
  tie_is_equal Equal h = refl
  tie_is_equal Greater h = absurd (true≢false (sym h))

  greater_from : (o : Ordering) → is_gt o ≡ true → o ≡ Greater
  greater_from Less h = absurd (true≢false (sym h))
  greater_from Equal h = absurd (true≢false (sym h))
  greater_from Greater h = refl

  less_from_past : (p q : X) → past q p ≡ true → by_key p q ≡ Less
  less_from_past p q h = turned p q ∙ ap ordering_reverse (greater_from (by_key q p) h)

  past_from_less : (p r : X) → by_key p r ≡ Less → past r p ≡ true
  past_from_less p r h = ap is_gt (turned r p ∙ ap ordering_reverse h)

  -- what is not below one that is past p is past p
  past_next : (p q r : X) → past q p ≡ true → below r q ≡ false → past r p ≡ true
  past_next p q r h up = by (by_key q r) refl (sym (ap is_lt (turned r q)) ∙ up)
    where
      by : (o : Ordering) → by_key q r ≡ o → is_lt (ordering_reverse (by_key q r)) ≡ false → past r p ≡ true
      by Less e _ = past_from_less p r (total.trans (key p) (key q) (key r) (less_from_past p q h) e)
      by Equal e _ = past_from_less p r (sym (alike_right total (key q) (key r) (key p) e) ∙ less_from_past p q h)
      by Greater e n = absurd (true≢false (sym (ap (λ o. is_lt (ordering_reverse o)) e) ∙ n))

  module _ (x : X) where
    abbrev pub tied : X → Bool
    tied = ties below x

    pub equal_from_tie : (p : X) → tied p ≡ true → by_key x p ≡ Equal
    equal_from_tie p h = tie_is_equal (by_key x p) (ap (λ o. not (below x p) && not (is_lt o)) (sym (turned p x)) ∙ h)

    past_differs : (p q : X) → by_key x p ≡ Equal → past q p ≡ true → tied q ≡ false
    past_differs p q e h =
        let less : by_key x q ≡ Less = total.congr (key x) (key p) (key q) e ∙ less_from_past p q h in
        ap (λ o. not (is_lt o) && not (below q x)) less

    none_tied : (p q : X) (qs : List X) → by_key x p ≡ Equal → past q p ≡ true → RisesFrom q qs → filter tied (q ∷ qs) ≡ []
    none_tied p q [] e h up = ap (λ b. cond b (q ∷ []) []) (past_differs p q e h)
    none_tied p q (r ∷ rs) e h up =
        ap (λ b. cond b (q ∷ filter tied (r ∷ rs)) (filter tied (r ∷ rs))) (past_differs p q e h) ∙ none_tied p r rs e (past_next p q r h up.0) up.1

    in_front : (p : X) (b : Bool) (qs : List X) → (b ≡ true → qs ≡ []) → cond b (p ∷ qs) qs ≡ qs ++ cond b (p ∷ []) []
    in_front p true qs none = ap (λ l. p ∷ l) (none refl) ∙ ap (λ l. l ++ p ∷ []) (sym (none refl))
    in_front p false qs none = sym (append-nil qs)

    onto : (b : Bool) (q : X) (us vs : List X) → cond b (q ∷ (us ++ vs)) (us ++ vs) ≡ cond b (q ∷ us) us ++ vs
    onto true q us vs = refl
    onto false q us vs = refl

    -- one that is put in stands after those of its key
    stands_after : (p : X) (qs : List X) → Rises qs → filter tied (inserted key cmp p qs) ≡ filter tied qs ++ filter tied (p ∷ [])
    stands_after p [] up = refl
    stands_after p (q ∷ qs) up = by (past q p) refl (stands_after p qs (after_first q qs up))
      where
        by : (b : Bool) → past q p ≡ b → filter tied (inserted key cmp p qs) ≡ filter tied qs ++ filter tied (p ∷ [])
            → filter tied (if b then p ∷ q ∷ qs else q ∷ inserted key cmp p qs) ≡ filter tied (q ∷ qs) ++ filter tied (p ∷ [])
        by true e later = in_front p (tied p) (filter tied (q ∷ qs)) (λ t. none_tied p q qs (equal_from_tie p t) e up)
        by false e later = ap (λ l. cond (tied q) (q ∷ l) l) later ∙ onto (tied q) q (filter tied qs) (filter tied (p ∷ []))

    all_stand : (sorted ps : List X) → Rises sorted → filter tied (in_order_after key cmp sorted ps) ≡ filter tied (sorted ++ ps)
    all_stand sorted [] up = ap (filter tied) (sym (append-nil sorted))
    all_stand sorted (p ∷ ps) up =
        all_stand (inserted key cmp p sorted) ps (inserted_rises p sorted up)
        ∙ filter-append tied (inserted key cmp p sorted) ps
        ∙ ap (λ l. l ++ filter tied ps) (stands_after p sorted up)
        ∙ append_assoc (filter tied sorted) (filter tied (p ∷ [])) (filter tied ps)
        ∙ ap (λ l. filter tied sorted ++ l) (sym (filter-append tied (p ∷ []) ps))
        ∙ sym (filter-append tied sorted (p ∷ ps))

  pub items_are_sorted : (xs : List X) → Sorts key cmp xs (in_order key cmp xs)
  items_are_sorted xs = record {
    same_items = all_put_in [] xs;
    rising = sorted_from (in_order key cmp xs) (all_rise [] xs tt);
    stable = λ x. all_stand x [] xs tt;
  }
