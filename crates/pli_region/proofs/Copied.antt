-- Bytes that are copied one by one, as lists.
use Rattle.std.proofs.Common.{◌≡◌, ℕ, zero, suc, ◌<◌, ◌≤◌, List, [], ◌∷◌, ◌++◌, length, get_or, set, take, drop, refl, ap, ◌∙◌, arith}

-- so many of these in the place of those
abbrev pub so_far : (xs ys : List ℕ) (i : ℕ) → List ℕ
so_far xs ys i = take i xs ++ drop i ys

pub copied_one : (xs ys : List ℕ) (i : ℕ) → i < length xs → i < length ys → set (so_far xs ys i) i (get_or xs i 0) ≡ so_far xs ys (suc i)
copied_one [] ys i lx ly = absurd (omega arith)
copied_one (x ∷ xs) [] i lx ly = absurd (omega arith)
copied_one (x ∷ xs) (y ∷ ys) zero lx ly = refl
copied_one (x ∷ xs) (y ∷ ys) (suc i) lx ly = ap (λ (l : List ℕ). x ∷ l) (copied_one xs ys i (omega arith) (omega arith))

dropped : (ys : List ℕ) (i : ℕ) → length ys ≤ i → drop i ys ≡ []
dropped [] zero le = refl
dropped [] (suc i) le = refl
dropped (y ∷ ys) zero le = absurd (omega arith)
dropped (y ∷ ys) (suc i) le = dropped ys i (omega arith)

taken : (xs : List ℕ) (i : ℕ) → length xs ≤ i → take i xs ++ [] ≡ xs
taken [] zero le = refl
taken [] (suc i) le = refl
taken (x ∷ xs) zero le = absurd (omega arith)
taken (x ∷ xs) (suc i) le = ap (λ (l : List ℕ). x ∷ l) (taken xs i (omega arith))

pub copied_all : (xs ys : List ℕ) (i : ℕ) → length xs ≤ i → length ys ≤ i → so_far xs ys i ≡ xs
copied_all xs ys i lx ly = ap (λ (l : List ℕ). take i xs ++ l) (dropped ys i ly) ∙ taken xs i lx
