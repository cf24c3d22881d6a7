-- What MOD gives is the least number from 0 on from which its first operand differs by a multiple of its second.
use Rattle.std.proofs.Common.{◌≡◌, ℕ, zero, suc, ◌+◌, ◌*◌, ◌%◌, ◌/◌, ◌<◌, ◌≤◌, ℤ, pos, negsuc, Ok, refl, sym, ap, ◌∙◌, subst, arith}
use Rattle.std.specs.Prelude.{◌+ℤ◌, ◌*ℤ◌, ◌≤ℤ◌, neg_ℤ}
use Rattle.std.specs.Int.{int_rem_euclid}
use Rattle.std.proofs.lemmas.Int.{int_rem_euclid_is, ints}
use Rattle.std.proofs.lemmas.Nat.{mod_below, div-add-mod'}
use Rattle.std.proofs.Math.Nat.{add-mul-mod_self_right}
use lib.IntN.{neg_ℤ-neg_ℤ}
use Rattle.pli_value.specs.Numbers.{remainder, IsLeastRemainder}

-- a product of two numbers with both signs turned
turned : (m : ℤ) (b : ℕ) → neg_ℤ m *ℤ negsuc b ≡ m *ℤ pos (suc b)
turned (pos zero) b = let none : 0 * suc b ≡ 0 = omega arith in rw none refl
turned (pos (suc n)) b = refl
turned (negsuc n) b = refl

-- a number is its remainder and a multiple
multiple_of : (x : ℤ) (b : ℕ) → (m : ℤ) × (int_rem_euclid x (pos (suc b)) +ℤ m *ℤ pos (suc b) ≡ x)
multiple_of (pos a) b = (pos (a / suc b), ap pos (omega (arith, div-add-mod' a (suc b))))
multiple_of (negsuc a) b =
    let whole : a / suc b * suc b + a % suc b ≡ a = div-add-mod' a (suc b) in
    let below : a % suc b < suc b = mod_below a (suc b) (omega arith) in
    (negsuc (a / suc b), omega (arith, ints))

-- a remainder is that of the divisor's magnitude
turned_divisor : (x : ℤ) (b : ℕ) → int_rem_euclid x (pos (suc b)) ≡ int_rem_euclid x (negsuc b)
turned_divisor (pos a) b = refl
turned_divisor (negsuc a) b = refl

-- what differs from x by a multiple is no less than its remainder
least_of : (x : ℤ) (b n : ℕ) (m : ℤ) → pos n +ℤ m *ℤ pos (suc b) ≡ x → int_rem_euclid x (pos (suc b)) ≤ℤ pos n
least_of x b n (pos c) is =
    let P : ℤ → Type 0 = λ z. int_rem_euclid z (pos (suc b)) ≤ℤ pos n in
    let below : n % suc b ≤ n = omega arith in
    subst P is (rw (add-mul-mod_self_right n c (suc b)) (omega (arith, ints)))
least_of x b n (negsuc c) is =
    let below : n % suc b ≤ n = omega arith in
    rw (int_rem_euclid_is x (pos (suc b)) (suc b) (suc c) n (omega arith) refl (omega (arith, ints))) (omega (arith, ints))

not_negative : (x : ℤ) (b : ℕ) → pos 0 ≤ℤ int_rem_euclid x (pos (suc b))
not_negative (pos a) b = omega (arith, ints)
not_negative (negsuc a) b = omega (arith, ints)

least : (x : ℤ) (b : ℕ) (s m : ℤ) → pos 0 ≤ℤ s → s +ℤ m *ℤ pos (suc b) ≡ x → int_rem_euclid x (pos (suc b)) ≤ℤ s
least x b (pos n) m low is = least_of x b n m is
least x b (negsuc n) m low is = absurd (omega (arith, ints))

by_positive : (x : ℤ) (b : ℕ) → IsLeastRemainder x (pos (suc b)) (int_rem_euclid x (pos (suc b)))
by_positive x b = record { low = not_negative x b; multiple = multiple_of x b; least = least x b }

-- a multiple of a number is one of that number with its sign turned
by_negative : (x : ℤ) (b : ℕ) (r : ℤ) → IsLeastRemainder x (pos (suc b)) r → IsLeastRemainder x (negsuc b) r
by_negative x b r it = record {
  low = it.low;
  multiple = (neg_ℤ it.multiple.0, ap (λ z. r +ℤ z) (turned it.multiple.0 b) ∙ it.multiple.1);
  least = λ s m low is. it.least s (neg_ℤ m) low (ap (λ z. s +ℤ z) (sym (turned (neg_ℤ m) b) ∙ ap (λ k. k *ℤ negsuc b) (neg_ℤ-neg_ℤ m)) ∙ is);
}

pub remainder_is_least : (x y r : ℤ) → remainder x y ≡ Ok r → IsLeastRemainder x y r
remainder_is_least x (pos zero) r is = absurd (cc)
remainder_is_least x (pos (suc b)) r is =
    let same : int_rem_euclid x (pos (suc b)) ≡ r = cc in
    let P : ℤ → Type 0 = λ z. IsLeastRemainder x (pos (suc b)) z in subst P same (by_positive x b)
remainder_is_least x (negsuc b) r is =
    let same : int_rem_euclid x (negsuc b) ≡ r = cc in
    let P : ℤ → Type 0 = λ z. IsLeastRemainder x (negsuc b) z in subst P (turned_divisor x b ∙ same) (by_negative x b _ (by_positive x b))
