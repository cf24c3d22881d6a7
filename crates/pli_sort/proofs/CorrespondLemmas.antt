-- Items that correspond stand in corresponding order.
use Rattle.std.proofs.Common.{◌≡◌, Bool, true, false, if◌then◌else◌, List, [], ◌∷◌, map, refl, sym, ap, ◌∙◌, subst}
use Rattle.std.proofs.Common.{Ordering, is_gt}
use Rattle.pli_sort.specs.Sorting.{inserted, in_order, in_order_after}

abbrev pub AllBoth : {A B : Type 0} → (A → B → Type 0) → List A → List B → Type 0
AllBoth R [] [] = Unit {0}
AllBoth R (x ∷ xs) (y ∷ ys) = R x y × AllBoth R xs ys
AllBoth R xs ys = ⊥

module _ {A B K : Type 0} (cmp : K → K → Ordering) (R : A → B → Type 0) (left : A → K) (right : B → K) (same : (a : A) (b : B) → R a b → left a ≡ right b) where
  both_inserted : (a : A) (b : B) (xs : List A) (ys : List B) → R a b → AllBoth R xs ys → AllBoth R (inserted left cmp a xs) (inserted right cmp b ys)
  both_inserted a b [] [] h all = (h, tt)
  both_inserted a b [] (y ∷ ys) h all = absurd all
  both_inserted a b (x ∷ xs) [] h all = absurd all
  both_inserted a b (x ∷ xs) (y ∷ ys) h all =
      let tests : is_gt (cmp (left x) (left a)) ≡ is_gt (cmp (right y) (right b)) =
      ap (λ k. is_gt (cmp k (left a))) (same x y all.0) ∙ ap (λ k. is_gt (cmp (right y) k)) (same a b h) in
      subst (λ t. AllBoth R (if t then a ∷ x ∷ xs else x ∷ inserted left cmp a xs) (inserted right cmp b (y ∷ ys))) (sym tests)
      (by (is_gt (cmp (right y) (right b))) (both_inserted a b xs ys h all.1))
    where
      by : (t : Bool) → AllBoth R (inserted left cmp a xs) (inserted right cmp b ys)
          → AllBoth R (if t then a ∷ x ∷ xs else x ∷ inserted left cmp a xs) (if t then b ∷ y ∷ ys else y ∷ inserted right cmp b ys)
      by true later = (h, all)
      by false later = (all.0, later)

  pub both_in_order : (sorted xs : List A) (others ys : List B) → AllBoth R sorted others → AllBoth R xs ys
      → AllBoth R (in_order_after left cmp sorted xs) (in_order_after right cmp others ys)
  both_in_order sorted [] others [] done all = done
  both_in_order sorted [] others (y ∷ ys) done all = absurd all
  both_in_order sorted (x ∷ xs) others [] done all = absurd all
  both_in_order sorted (x ∷ xs) others (y ∷ ys) done all =
      both_in_order (inserted left cmp x sorted) xs (inserted right cmp y others) ys (both_inserted x y sorted others all.0 done) all.1

-- what items give stands in the order of what they give
all_mapped : {A B : Type 0} (f : A → B) (xs : List A) → AllBoth (λ x y. f x ≡ y) xs (map f xs)
all_mapped f [] = tt
all_mapped f (x ∷ xs) = (refl, all_mapped f xs)

mapped_all : {A B : Type 0} (f : A → B) (xs : List A) (ys : List B) → AllBoth (λ x y. f x ≡ y) xs ys → map f xs ≡ ys
mapped_all f [] [] all = refl
mapped_all f [] (y ∷ ys) all = absurd all
mapped_all f (x ∷ xs) [] all = absurd all
mapped_all f (x ∷ xs) (y ∷ ys) all = ap (λ z. z ∷ map f xs) all.0 ∙ ap (λ zs. y ∷ zs) (mapped_all f xs ys all.1)

pub mapped_in_order : {A B K : Type 0} (cmp : K → K → Ordering) (f : A → B) (left : A → K) (right : B → K) → ((a : A) → left a ≡ right (f a)) → (xs : List A)
    → map f (in_order left cmp xs) ≡ in_order right cmp (map f xs)
mapped_in_order cmp f left right same xs =
    mapped_all f (in_order left cmp xs) (in_order right cmp (map f xs))
    (both_in_order cmp (λ x y. f x ≡ y) left right (λ a b h. same a ∙ ap right h) [] xs [] (map f xs) tt (all_mapped f xs))
