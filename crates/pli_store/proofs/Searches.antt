-- What a look-up finds among the generations that live.
use Rattle.std.proofs.Common.{◌≡◌, ℕ, zero, suc, ◌<◌, ◌≤◌, ◌≢◌, true, List, [], ◌∷◌, length, map, set, get_or, Some, None, Result, Ok, Err, slice_get, MatchOption, refl, sym, ap, ◌∙◌, subst, arith, add-one, inl, inr}
use Rattle.std.specs.Cmp.{nat_cmp_is}
use Rattle.std.specs.List.Sorted.{IsSortedBy, IsSearchInRange, IsBinarySearchResult, IsPartitionPoint}
use Rattle.std.specs.Option.{option_map}
use Rattle.std.specs.Ordering.{nat_cmp, is_lt}
use Rattle.std.specs.Result.{result_ok}
use Rattle.std.specs.declared.cmp.Ordering.TheVariants.{Less, Equal, Greater}
use Rattle.std.proofs.lemmas.Bool.{cases_lt}
use Rattle.std.proofs.lemmas.Cmp.{nat_cmp_total}
use Rattle.std.proofs.lemmas.List.{length-map, set-get_or}
use Rattle.std.proofs.lemmas.List.Sorted.{searchable_from_sorted}
use Rattle.std.proofs.lemmas.Map.Lookups.{exact_unsigned}
use Rattle.std.proofs.lemmas.Option.{slice_get-map, slice_get_cases, slice_get_within, slice_get-get_or, get_or_from_slice_get, same_Some, none-some}
use Rattle.pli_world.specs.Storage as plain
use Rattle.pli_world.specs.Storage.{generation_in}
use Rattle.pli_store.specs.answers.Found.{StandsAt}
use Rattle.pli_store.specs.answers.Kept.{rise}
use Rattle.pli_store.specs.declared.generation.Generation.{Generation}
use Rattle.pli_store.specs.views.GenerationView.{generation_view}
use Rattle.pli_store.proofs.RisingNumbers.{tail, found_at, not_found, number_within}

-- the numbers of neighbours rise
neighbours : (from : ℕ) (gs : List plain.Generation) (to k : ℕ) (a b : plain.Generation) → rise from gs to ≡ true → slice_get gs k ≡ Some a → slice_get gs (suc k) ≡ Some b → a.number < b.number
neighbours from [] to k a b r first second = absurd (none-some a first)
neighbours from (x ∷ gs) to zero a b r first second =
    subst (λ y. y.number < b.number) (same_Some x a first) ((number_within (suc x.number) gs to 0 b (tail from x gs to r) second).low)
neighbours from (x ∷ gs) to (suc k) a b r first second = neighbours (suc x.number) gs to k a b (tail from x gs to r) first second

-- what stands somewhere, put there again
pub set_same : {X : Type 0} (xs : List X) (i : ℕ) (x : X) → slice_get xs i ≡ Some x → set xs i x ≡ xs
set_same xs i x h = ap (set xs i) (sym (get_or_from_slice_get xs i x x h)) ∙ set-get_or xs i x

-- where a generation stands in the store it stands in what the store says
pub stands_in_view : (items : List Generation) (at : ℕ) (g : Generation) → slice_get items at ≡ Some g → slice_get (map generation_view items) at ≡ Some (generation_view g)
stands_in_view items at g h = slice_get-map generation_view items at ∙ ap (option_map generation_view) h

-- what stands in what the store says is within the store
pub slice_get_within_view : (items : List Generation) (at : ℕ) (x : plain.Generation) → slice_get (map generation_view items) at ≡ Some x → at < length items
slice_get_within_view items at x h =
    let inside = slice_get_within (map generation_view items) at x h in
    let count = length-map items generation_view in
    omega (arith, inside, count)

-- and the other way round
pub stands_in_store : (items : List Generation) (at : ℕ) (x : plain.Generation) → slice_get (map generation_view items) at ≡ Some x → (g : Generation) × (slice_get items at ≡ Some g) × (generation_view g ≡ x)
stands_in_store items at x h =
    elim (slice_get_cases items at).1 [
      | inl e ↦ (e.0, e.2, same_Some (generation_view e.0) x (sym (stands_in_view items at e.0 e.2) ∙ h))
      | inr e ↦ absurd (none-some x (sym (slice_get-map generation_view items at ∙ ap (option_map generation_view) e.1) ∙ h))
    ]

module _ (items : List Generation) (to : ℕ) (r : rise 0 (map generation_view items) to ≡ true) where
  pub stands_at : (at : ℕ) (g : Generation) → slice_get items at ≡ Some g → StandsAt (map generation_view items) g.number at
  stands_at at g h = record {
    generation = generation_view g;
    stands = stands_in_view items at g h;
    found = found_at 0 (map generation_view items) to at (generation_view g) r (stands_in_view items at g h);
  }

  sorted : IsSortedBy (λ (a b : Generation). is_lt (nat_cmp a.number b.number)) items
  sorted k d low high =
      let first = slice_get-get_or items k d (omega (arith, high)) in
      let second = slice_get-get_or items (suc k) d (omega (arith, high)) in
      let less = neighbours 0 (map generation_view items) to k (generation_view (get_or items k d)) (generation_view (get_or items (suc k) d)) r (stands_in_view items k (get_or items k d) first) (stands_in_view items (suc k) (get_or items (suc k) d) second) in
      rw add-one (ap is_lt (sym (nat_cmp_is (get_or items (suc k) d).number (get_or items k d).number Greater less)))

  others : (number at : ℕ) → at ≤ length items → IsPartitionPoint (λ (g : Generation). nat_cmp g.number number ≡ Less) (λ g. nat_cmp g.number number ≡ Greater) items at → (k : ℕ) (x : plain.Generation) → slice_get (map generation_view items) k ≡ Some x → x.number ≢ number
  others number at within parts k x h same =
      let found = stands_in_store items k x h in
      let g = found.0 in
      let inside = slice_get_within items k g found.1 in
      let here : get_or items k g ≡ g = same_Some (get_or items k g) g (sym (slice_get-get_or items k g inside) ∙ found.1) in
      let equal : nat_cmp g.number number ≡ Equal = ap (λ (y : plain.Generation). nat_cmp y.number number) found.2 ∙ ap (λ n. nat_cmp n number) same ∙ sym (nat_cmp_is number number Equal refl) in
      elim (cases_lt k at) [
        | inl before ↦ let less = subst (λ (y : Generation). nat_cmp y.number number ≡ Less) here (parts.0 k g (omega arith) before) in cc
        | inr after ↦ let greater = subst (λ (y : Generation). nat_cmp y.number number ≡ Greater) here (parts.1 k g after inside) in cc
      ]

  pub searched : (number : ℕ) (result : Result ℕ ℕ) → IsSearchInRange result (length items) → IsBinarySearchResult (λ (g : Generation). nat_cmp g.number number) items result → MatchOption (result_ok result) (generation_in (map generation_view items) number ≡ None) (StandsAt (map generation_view items) number)
  searched number (Ok at) within holds =
      elim (slice_get_cases items at).1 [
        | inl e ↦ subst (λ n. StandsAt (map generation_view items) n at) (exact_unsigned (e.0).number number (subst (λ (y : Generation). nat_cmp y.number number ≡ Equal) e.3 (holds e.0))) (stands_at at e.0 e.2)
        | inr e ↦ absurd (omega (arith, e.0, within))
      ]
  searched number (Err at) within parts =
      not_found (map generation_view items) number
      (others number at within (parts (searchable_from_sorted nat_cmp_total (λ (g : Generation). g.number) items number sorted)))
