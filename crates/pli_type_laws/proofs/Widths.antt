-- How many columns numbers take: tables of what the precisions and digits give.
use Rattle.std.specs.Prelude.{◌≡◌, ℕ, zero, suc, ◌+◌, ◌^◌, ◌≤◌, ◌<◌, Bool, true, false, ◌&&◌, nat_eq, nat_le, refl}
use Rattle.std.proofs.Common.{arith, sym, subst, lit<}
use Rattle.std.proofs.Math.Nat.{pow-le-pow_right}
use Rattle.std.proofs.lemmas.Bool.{and_parts, leb-true, eqb-true}
use Rattle.pli_type_rules.specs.ExpressionTypes.{columns, decimal_digits}
use Rattle.pli_type_laws.specs.ExpressionTyping.{AreNear}
use Rattle.pli_type_tree.specs.ValueTypes.{HaveColumns}

-- a test of each number below another
abbrev pub all_below : ℕ → (ℕ → Bool) → Bool
all_below zero f = true
all_below (suc n) f = f n && all_below n f

here_or_below : (n : ℕ) (f : ℕ → Bool) (i : ℕ) → f n ≡ true → (i < n → f i ≡ true) → i < suc n → f i ≡ true
here_or_below n f i here below lt = by (nat_eq i n) refl
  where
    by : (b : Bool) → nat_eq i n ≡ b → f i ≡ true
    by true same = subst (λ j. f j ≡ true) (sym (eqb-true i n same)) here
    by false other = below (grind (arith, other, lt))

pub below_each : (n : ℕ) (f : ℕ → Bool) → all_below n f ≡ true → (i : ℕ) → i < n → f i ≡ true
below_each zero f e i lt = absurd (omega (arith, lt))
below_each (suc n) f e i lt =
    here_or_below n f i ((and_parts _ _ e).0) (λ l. below_each n f ((and_parts _ _ e).1) i l) lt

-- a number of four digits more than this precision has room in its columns
abbrev has_room : (precision : ℕ) → Bool
has_room q =
    nat_eq (columns (decimal_digits q)) (suc (decimal_digits q + 2))
    && nat_le (2 ^ (q + 4)) (10 ^ (decimal_digits q + 2))

rooms : (q : ℕ) → q < 64 → has_room q ≡ true
rooms q lt = below_each 64 has_room refl q lt

pub near_has_columns : (p q : ℕ) → AreNear p q → HaveColumns (columns (decimal_digits q)) p
near_has_columns p q near =
    let room : has_room q ≡ true = rooms q (omega (arith, near.2)) in
    let both : (nat_eq (columns (decimal_digits q)) (suc (decimal_digits q + 2)) ≡ true)
    × (nat_le (2 ^ (q + 4)) (10 ^ (decimal_digits q + 2)) ≡ true) = and_parts _ _ room in
    let less : 2 ^ p ≤ 2 ^ (q + 4) = pow-le-pow_right {n = 2} (lit< tt) {i = p} {j = q + 4} (omega (arith, near.0, near.2)) in
    let within : 2 ^ (q + 4) ≤ 10 ^ (decimal_digits q + 2) = leb-true _ _ both.1 in
    (near.1, decimal_digits q + 2, eqb-true _ _ both.0, omega (arith, less, within))
