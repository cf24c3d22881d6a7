-- The order of two strings, found place by place.
use Rattle.std.proofs.Common.{◌≡◌, ℕ, ◌+◌, ◌<◌, ◌≤◌, max, List, length, drop, get_or, refl, sym, ap, ◌∙◌, arith}
use Rattle.std.specs.declared.cmp.Ordering.{Ordering}
use Rattle.std.specs.declared.cmp.Ordering.TheVariants.{Less, Equal, Greater}
use Rattle.std.specs.Ordering.{ordering_then}
use Rattle.std.proofs.lemmas.List.{at_drop_more, at_drop_all}
use Rattle.std.proofs.lemmas.List.FromFn.{length-map-range_with_len, get_or-map-range_with_len}
use Rattle.pli_value.specs.Strings.{by_place, first_unequal}

unequal_then : (o p : Ordering) → (o ≡ Equal → ⊥) → ordering_then o p ≡ o
unequal_then Less p h = refl
unequal_then Equal p h = absurd (h refl)
unequal_then Greater p h = refl

module _ {A : Type 0} (extension : A) (order : A → A → Ordering) (s t : List A) where
  -- the order of what stands after a place
  abbrev pub order_from : ℕ → Ordering
  order_from k = first_unequal (drop k (by_place extension order s t))

  places : length (by_place extension order s t) ≡ max (length s) (length t)
  places = length-map-range_with_len _ 0 (max (length s) (length t))

  pub step : (k : ℕ) → k < max (length s) (length t) → order_from k ≡ ordering_then (order (get_or s k extension) (get_or t k extension)) (order_from (k + 1))
  step k below =
      at_drop_more first_unequal (by_place extension order s t) k Equal (omega (arith, places))
      ∙ ap (λ o. ordering_then o (order_from (k + 1))) (get_or-map-range_with_len _ 0 (max (length s) (length t)) k k Equal below (omega arith))

  pub passed : (k : ℕ) (r : Ordering) → k < max (length s) (length t) → order (get_or s k extension) (get_or t k extension) ≡ Equal
      → order_from k ≡ r → order_from (k + 1) ≡ r
  passed k r below same is = sym (step k below ∙ ap (λ o. ordering_then o (order_from (k + 1))) same) ∙ is

  pub stopped : (k : ℕ) (o r : Ordering) → k < max (length s) (length t) → o ≡ order (get_or s k extension) (get_or t k extension)
      → (o ≡ Equal → ⊥) → order_from k ≡ r → o ≡ r
  stopped k o r below here unequal is =
      sym (unequal_then o (order_from (k + 1)) unequal) ∙ ap (λ p. ordering_then p (order_from (k + 1))) here ∙ sym (step k below) ∙ is

  pub ended : (k : ℕ) (r : Ordering) → max (length s) (length t) ≤ k → order_from k ≡ r → Equal ≡ r
  ended k r over is = sym (at_drop_all first_unequal (by_place extension order s t) k (omega (arith, places))) ∙ is
