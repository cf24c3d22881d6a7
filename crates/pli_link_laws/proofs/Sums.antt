-- Sums over lists, and what holds of all items of a list.
use Rattle.std.proofs.Common.{◌≡◌, ℕ, ◌+◌, Bool, true, false, ◌&&◌, List, [], ◌∷◌, ◌++◌, map, refl, ap, sym, ◌∙◌, arith, true≢false}
use Rattle.std.specs.Prelude.{fold}
use Rattle.std.specs.List.{sum_by, AllByRecursion}

-- the sum with its first item first
abbrev pub total : {X : Type 0} → (X → ℕ) → List X → ℕ
total f [] = 0
total f (x ∷ xs) = f x + total f xs

pub total_after : {X : Type 0} (f : X → ℕ) (xs : List X) (n : ℕ) → fold (λ a x. a + f x) n xs ≡ n + total f xs
total_after f [] n = omega arith
total_after f (x ∷ xs) n = total_after f xs (n + f x) ∙ omega arith

pub sum_is_total : {X : Type 0} (f : X → ℕ) (xs : List X) → sum_by f xs ≡ total f xs
sum_is_total f xs = total_after f xs 0 ∙ omega arith

pub total_joined : {X : Type 0} (f : X → ℕ) (xs ys : List X) → total f (xs ++ ys) ≡ total f xs + total f ys
total_joined f [] ys = omega arith
total_joined f (x ∷ xs) ys = omega (arith, total_joined f xs ys)

pub total_mapped : {X Y : Type 0} (f : Y → ℕ) (g : X → Y) (xs : List X) → total f (map g xs) ≡ total (λ x. f (g x)) xs
total_mapped f g [] = refl
total_mapped f g (x ∷ xs) = ap (λ n. f (g x) + n) (total_mapped f g xs)

-- ---- all items

pub both_hold : (a b : Bool) → a ≡ true → b ≡ true → (a && b) ≡ true
both_hold a b h k = rw (h, k)

pub both_of : (a b : Bool) → (a && b) ≡ true → (a ≡ true) × (b ≡ true)
both_of true b h = (refl, h)
both_of false b h = absurd (true≢false (sym h))

pub all_front : {X : Type 0} (P : X → Type 0) (xs ys : List X) → AllByRecursion P (xs ++ ys) → AllByRecursion P xs
all_front P [] ys h = tt
all_front P (x ∷ xs) ys h = (h.0, all_front P xs ys h.1)

pub all_back : {X : Type 0} (P : X → Type 0) (xs ys : List X) → AllByRecursion P (xs ++ ys) → AllByRecursion P ys
all_back P [] ys h = h
all_back P (x ∷ xs) ys h = all_back P xs ys h.1

pub all_both : {X : Type 0} (P : X → Type 0) (xs ys : List X) → AllByRecursion P xs → AllByRecursion P ys → AllByRecursion P (xs ++ ys)
all_both P [] ys h k = k
all_both P (x ∷ xs) ys h k = (h.0, all_both P xs ys h.1 k)
