-- Multiples of 1, 2, 4 and 8.
use Rattle.std.proofs.Common.{◌≡◌, ℕ, ◌+◌, ◌*◌, ◌%◌, ◌≤◌, max, sym, ◌∙◌, subst, arith, ◌⊎◌, inl, inr}
use Rattle.std.specs.Int.{next_multiple_of}
use Rattle.std.proofs.lemmas.Nat.{mul-mod_second}

-- 1, 2, 4 or 8
abbrev pub IsAlignment : ℕ → Type 0
IsAlignment a = (a ≡ 1) ⊎ (a ≡ 2) ⊎ (a ≡ 4) ⊎ (a ≡ 8)

-- what holds of the four holds of each alignment
by_cases : (P : ℕ → Type 0) → P 1 → P 2 → P 4 → P 8 → (a : ℕ) → IsAlignment a → P a
by_cases P one two four eight a (inl e) = subst P (sym e) one
by_cases P one two four eight a (inr (inl e)) = subst P (sym e) two
by_cases P one two four eight a (inr (inr (inl e))) = subst P (sym e) four
by_cases P one two four eight a (inr (inr (inr e))) = subst P (sym e) eight

pub sum_aligned : (a m n : ℕ) → IsAlignment a → m % a ≡ 0 → n % a ≡ 0 → (m + n) % a ≡ 0
sum_aligned a m n is p q = grind arith

pub next_aligned : (a n : ℕ) → IsAlignment a → next_multiple_of n a % a ≡ 0
next_aligned a n is = by_cases (λ b. next_multiple_of n b % b ≡ 0) (omega arith) (omega arith) (omega arith) (omega arith) a is

pub times_aligned : (a k n : ℕ) → IsAlignment a → n % a ≡ 0 → (k * n) % a ≡ 0
times_aligned a k n is p =
    sym (mul-mod_second k n a) ∙ rw p (by_cases (λ b. (k * 0) % b ≡ 0) (omega arith) (omega arith) (omega arith) (omega arith) a is)

-- a multiple of a greater alignment is one of a lesser
pub divides : (a b n : ℕ) → IsAlignment a → IsAlignment b → a ≤ b → n % b ≡ 0 → n % a ≡ 0
divides a b n p q le h =
    let Claim : ℕ → ℕ → Type 0 = λ x y. x ≤ y → n % y ≡ 0 → n % x ≡ 0 in
    by_cases (λ x. Claim x b) (by_cases (λ y. Claim 1 y) (λ m e. omega arith) (λ m e. omega arith) (λ m e. omega arith) (λ m e. omega arith) b q)
    (by_cases (λ y. Claim 2 y) (λ m e. omega arith) (λ m e. omega arith) (λ m e. omega arith) (λ m e. omega arith) b q)
    (by_cases (λ y. Claim 4 y) (λ m e. omega arith) (λ m e. omega arith) (λ m e. omega arith) (λ m e. omega arith) b q)
    (by_cases (λ y. Claim 8 y) (λ m e. omega arith) (λ m e. omega arith) (λ m e. omega arith) (λ m e. omega arith) b q)
    a p le h

greatest : (a b c : ℕ) → IsAlignment a → IsAlignment b → (c ≡ a) ⊎ (c ≡ b) → IsAlignment c
greatest a b c p q (inl e) = subst IsAlignment (sym e) p
greatest a b c p q (inr e) = subst IsAlignment (sym e) q

one_of : (a b : ℕ) → (max a b ≡ a) ⊎ (max a b ≡ b)
one_of a b = grind arith

pub greater : (a b : ℕ) → IsAlignment a → IsAlignment b → IsAlignment (max a b)
greater a b p q = greatest a b (max a b) p q (one_of a b)
