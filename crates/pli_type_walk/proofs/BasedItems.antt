-- How many items of ALLOCATE are of BASED variables, item by item.
use Rattle.std.proofs.Common.{◌≡◌, ℕ, ◌+◌, ◌<◌, ◌≤◌, Bool, true, false, List, ◌∷◌, map, drop, get_or, length, refl, ap, sym, ◌∙◌, arith}
use Rattle.std.proofs.lemmas.List.{at_drop_all}
use Rattle.std.specs.Prelude.{if◌then◌else◌}
use Rattle.pli_base.specs.declared.statement.Allocation.{Allocation}
use Rattle.pli_base.specs.views.StatementView.{allocation_view}
use Rattle.pli_type_rules.specs.Temporaries.{based_among}
use Rattle.pli_type_parts.proofs.SearchLemmas.{front}

module _ (f : ℕ → Bool) (xs : List Allocation) (i : ℕ) (x : Allocation) (is : x ≡ get_or xs i x) (within : i < length xs) (count : ℕ) where
  abbrev left : ℕ
  left = based_among f (map allocation_view (drop (i + 1) xs))

  at_item : based_among f (map allocation_view (drop i xs)) ≡ based_among f (allocation_view x ∷ map allocation_view (drop (i + 1) xs))
  at_item = front (λ ys. based_among f (map allocation_view ys)) xs i x is within

  counted_one : (b : Bool) → b ≡ f x.name.at → b ≡ true → count + 1 + left ≡ count + based_among f (map allocation_view (drop i xs))
  counted_one b e t =
      let one : f x.name.at ≡ true = sym e ∙ t in
      omega (arith, at_item ∙ ap (λ c. (if c then 1 else 0) + left) one)

  counted_none : (b : Bool) → b ≡ f x.name.at → b ≡ false → count + left ≡ count + based_among f (map allocation_view (drop i xs))
  counted_none b e t =
      let none : f x.name.at ≡ false = sym e ∙ t in
      omega (arith, at_item ∙ ap (λ c. (if c then 1 else 0) + left) none)

  pub one_counted : f x.name.at ≡ true → count + 1 + left ≡ count + based_among f (map allocation_view (drop i xs))
  one_counted e = counted_one true (sym e) refl

  pub none_counted : f x.name.at ≡ false → count + left ≡ count + based_among f (map allocation_view (drop i xs))
  none_counted e = counted_none false (sym e) refl

pub all_counted : (f : ℕ → Bool) (xs : List Allocation) (i count : ℕ) → length xs ≤ i
    → count + based_among f (map allocation_view (drop i xs)) ≡ count
all_counted f xs i count past =
    ap (λ n. count + n) (at_drop_all (λ ys. based_among f (map allocation_view ys)) xs i past) ∙ omega arith
