-- What edits by a key do to sorted entries.
use Rattle.std.proofs.Common.{◌≡◌, ◌≢◌, ◌+◌, ◌≤◌, false, cond, List, [], ◌∷◌, length, Some, refl, sym, ap, ◌∙◌, subst, arith}
use Rattle.std.specs.List.{AllByRecursion}
use Rattle.std.specs.List.Sorted.{IsStrictlySortedBy}
use Rattle.std.specs.declared.cmp.Ordering.{Ordering}
use Rattle.std.specs.declared.cmp.Ordering.TheVariants.{Less, Equal, Greater}
use Rattle.std.specs.Ordering.{is_eq}
use Rattle.std.specs.Cmp.{IsTotalOrder}
use Rattle.std.specs.Map.{keys_of, lookup, remove_entry}
use Rattle.std.specs.BTreeMap.{is_at, insert_entry}
use Rattle.std.proofs.lemmas.Cmp.{tied_itself}
use Rattle.std.proofs.lemmas.Map.Lookups.{CmpEqualImpliesEq}
use Rattle.std.proofs.lemmas.Map.Views.{tells_apart}
use Rattle.pli_members.proofs.EditsAtPlace.{by_ordering, by_test, cond-true, cond-false, insert_entry_step, below}

-- what holds of each holds in another way
AllByRecursion-map : {K : Type 0} (P Q : K → Type 0) → ((x : K) → P x → Q x) → (ks : List K) → AllByRecursion P ks → AllByRecursion Q ks
AllByRecursion-map P Q f [] a = tt
AllByRecursion-map P Q f (k ∷ ks) a = (f k a.0, AllByRecursion-map P Q f ks a.1)

-- keys that differ are not tied
not_at : {K : Type 0} {R : K → K → Ordering} → CmpEqualImpliesEq R → (q x : K) → q ≢ x → is_at (R q) x ≡ false
not_at {K} {R} exact q x differs = by_test (is_at (R q) x) (λ h. absurd (differs (tells_apart exact q x h))) (λ h. h)

-- no keys rise
pub sorted_none : {K : Type 0} (R : K → K → Ordering) → IsStrictlySortedBy R []
unfolding IsStrictlySortedBy
sorted_none R = tt

module _ {K X : Type 0} (R : K → K → Ordering) (k : K) (v : X) where
  -- an entry that is put holds what its key does
  all_keys_put : (P : K → Type 0) (es : List (K × X)) → P k → AllByRecursion P (keys_of es) → AllByRecursion P (keys_of (insert_entry R es k v))
  all_keys_put P [] p a = (p, tt)
  all_keys_put P (e ∷ es) p a =
      let step = insert_entry_step R k v e es in
      let Q : List (K × X) → Type 0 = λ l. AllByRecursion P (keys_of l) in
      by_ordering (R k e.0)
      (λ h. subst Q (sym (step Less h)) (p, a))
      (λ h. subst Q (sym (step Equal h)) a)
      (λ h. subst Q (sym (step Greater h)) (a.0, all_keys_put P es p a.1))

  -- the keys still rise
  pub sorted_put : IsTotalOrder R → (es : List (K × X)) → IsStrictlySortedBy R (keys_of es) → IsStrictlySortedBy R (keys_of (insert_entry R es k v))
  unfolding IsStrictlySortedBy
  sorted_put o [] s = (tt, tt)
  sorted_put o (e ∷ es) s =
      let step = insert_entry_step R k v e es in
      let Q : List (K × X) → Type 0 = λ l. IsStrictlySortedBy R (keys_of l) in
      by_ordering (R k e.0)
      (λ h. subst Q (sym (step Less h)) ((h, AllByRecursion-map (λ y. R e.0 y ≡ Less) (λ y. R k y ≡ Less) (λ y. o.trans k e.0 y h) (keys_of es) s.0), s))
      (λ h. subst Q (sym (step Equal h)) s)
      (λ h. subst Q (sym (step Greater h)) (all_keys_put (λ y. R e.0 y ≡ Less) es (below o e.0 k h) s.0, sorted_put o es s.1))

  -- there is at most one entry more
  pub length-put : (es : List (K × X)) → length (insert_entry R es k v) ≤ length es + 1
  length-put [] = omega arith
  length-put (e ∷ es) =
      let step = insert_entry_step R k v e es in
      let Q : List (K × X) → Type 0 = λ l. length l ≤ length (e ∷ es) + 1 in
      let longer = length-put es in
      by_ordering (R k e.0)
      (λ h. subst Q (sym (step Less h)) (omega arith))
      (λ h. subst Q (sym (step Equal h)) (omega arith))
      (λ h. subst Q (sym (step Greater h)) (omega arith))

  -- the key finds what was put
  pub lookup-put : IsTotalOrder R → (es : List (K × X)) → lookup (is_at (R k)) (insert_entry R es k v) ≡ Some v
  lookup-put o [] = cond-true _ _ _ (ap is_eq (tied_itself o k))
  lookup-put o (e ∷ es) =
      let step = insert_entry_step R k v e es in
      let found = lookup {K = K} {X = X} (is_at (R k)) in
      by_ordering (R k e.0)
      (λ h. ap found (step Less h) ∙ cond-true _ _ _ (ap is_eq (tied_itself o k)))
      (λ h. ap found (step Equal h) ∙ cond-true _ _ _ (ap is_eq h))
      (λ h. ap found (step Greater h) ∙ cond-false _ _ _ (ap is_eq h) ∙ lookup-put o es)

  -- another key finds what it did
  pub lookup-put_other : CmpEqualImpliesEq R → (q : K) → q ≢ k → (es : List (K × X)) → lookup (is_at (R q)) (insert_entry R es k v) ≡ lookup (is_at (R q)) es
  lookup-put_other exact q differs [] = cond-false _ _ _ (not_at exact q k differs)
  lookup-put_other exact q differs (e ∷ es) =
      let step = insert_entry_step R k v e es in
      let found = lookup {K = K} {X = X} (is_at (R q)) in
      by_ordering (R k e.0)
      (λ h. ap found (step Less h) ∙ cond-false _ _ _ (not_at exact q k differs))
      (λ h.
      let missed = not_at exact q e.0 (λ same. differs (same ∙ sym (exact k e.0 h))) in
      ap found (step Equal h) ∙ cond-false _ _ _ missed ∙ sym (cond-false _ _ _ missed))
      (λ h. ap found (step Greater h) ∙ ap (λ o. cond (is_at (R q) e.0) (Some e.1) o) (lookup-put_other exact q differs es))

module _ {K X : Type 0} (R : K → K → Ordering) (k : K) where
  -- the keys that are left hold what they did
  all_keys_taken : (P : K → Type 0) (es : List (K × X)) → AllByRecursion P (keys_of es) → AllByRecursion P (keys_of (remove_entry (is_at (R k)) es))
  all_keys_taken P [] a = tt
  all_keys_taken P (e ∷ es) a =
      let Q : List (K × X) → Type 0 = λ l. AllByRecursion P (keys_of l) in
      by_test (is_at (R k) e.0)
      (λ h. subst Q (sym (cond-true _ _ _ h)) a.1)
      (λ h. subst Q (sym (cond-false _ _ _ h)) (a.0, all_keys_taken P es a.1))

  -- the keys still rise
  pub sorted_taken : (es : List (K × X)) → IsStrictlySortedBy R (keys_of es) → IsStrictlySortedBy R (keys_of (remove_entry (is_at (R k)) es))
  unfolding IsStrictlySortedBy
  sorted_taken [] s = tt
  sorted_taken (e ∷ es) s =
      let Q : List (K × X) → Type 0 = λ l. IsStrictlySortedBy R (keys_of l) in
      by_test (is_at (R k) e.0)
      (λ h. subst Q (sym (cond-true _ _ _ h)) s.1)
      (λ h. subst Q (sym (cond-false _ _ _ h)) (all_keys_taken (λ y. R e.0 y ≡ Less) es s.0, sorted_taken es s.1))

  -- there are no more entries
  pub length-taken : (es : List (K × X)) → length (remove_entry (is_at (R k)) es) ≤ length es
  length-taken [] = omega arith
  length-taken (e ∷ es) =
      let Q : List (K × X) → Type 0 = λ l. length l ≤ length (e ∷ es) in
      let shorter = length-taken es in
      by_test (is_at (R k) e.0)
      (λ h. subst Q (sym (cond-true _ _ _ h)) (omega arith))
      (λ h. subst Q (sym (cond-false _ _ _ h)) (omega arith))

  -- another key finds what it did
  pub lookup-taken_other : CmpEqualImpliesEq R → (q : K) → q ≢ k → (es : List (K × X)) → lookup (is_at (R q)) (remove_entry (is_at (R k)) es) ≡ lookup (is_at (R q)) es
  lookup-taken_other exact q differs [] = refl
  lookup-taken_other exact q differs (e ∷ es) =
      let found = lookup {K = K} {X = X} (is_at (R q)) in
      by_test (is_at (R k) e.0)
      (λ h. ap found (cond-true _ _ _ h) ∙ sym (cond-false _ _ _ (not_at exact q e.0 (λ same. differs (same ∙ sym (tells_apart exact k e.0 h))))))
      (λ h. ap found (cond-false _ _ _ h) ∙ ap (λ o. cond (is_at (R q) e.0) (Some e.1) o) (lookup-taken_other exact q differs es))
