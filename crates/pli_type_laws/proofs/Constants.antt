-- Constants have their types, and those of texts are as they are written.
use Rattle.std.specs.Prelude.{◌≡◌, ℕ, suc, ◌+◌, ◌*◌, ◌/◌, ◌%◌, ◌^◌, ◌≤◌, ◌<◌, min, Bool, true, ◌&&◌, nat_eq, nat_le, pos, length, take, refl}
use Rattle.std.proofs.Common.{arith, ap, sym, subst, inl, inr}
use Rattle.std.proofs.lemmas.Bool.{and_parts, cases_lt, eqb-true, leb-true}
use Rattle.std.proofs.lemmas.List.{length-take, take_all}
use Rattle.std.proofs.lemmas.Nat.{le-div, pow_pos}
use Rattle.std.proofs.Math.Nat.{pow-le-pow_right}
use Rattle.pli_base.specs.declared.syntax.ConstantValue.{ConstantValue}
use Rattle.pli_base.specs.declared.syntax.ConstantValue.TheVariants as constants
use Rattle.pli_type_rules.specs.ExpressionTypes.{constant, columns, binary_digits, within}
use Rattle.pli_type_laws.proofs.Operators.{HasValue}
use Rattle.pli_type_laws.proofs.Widths.{below_each}
use Rattle.pli_type_laws.specs.ConstantLaws.{ConstantsAreAsWritten}
use Rattle.pli_type_laws.specs.ExpressionTyping.{AreNear}
use Rattle.pli_type_tree.specs.ValueTypes.{HaveColumns, longest}
use Rattle.pli_type_tree.specs.WellTyped.{TypingContext}
use Rattle.pli_value.specs.Value.{Number, Characters, Bits}

-- ---- a type has room for the value

few : (d : ℕ) → binary_digits 63 d ≤ 63
few d = omega arith

near : (p : ℕ) → p ≤ 63 → AreNear p p
near p le = (omega arith, le, le)

pub below : (p value : ℕ) → within p value < 2 ^ p
below p value = omega (arith, pow_pos p)

-- as many columns as digits have room for the constant: by a table up to 19 digits, and beyond since there are more
-- columns than 63 binary digits need
abbrev is_wide : (digits : ℕ) → Bool
is_wide d = nat_eq (columns d) (suc (d + 2)) && nat_le (2 ^ binary_digits 63 d) (10 ^ (d + 2))

wide : (d : ℕ) → HaveColumns (columns d) (binary_digits 63 d)
wide d =
    elim (cases_lt d 20) [
      | inl less ↦ let both : (nat_eq (columns d) (suc (d + 2)) ≡ true) × (nat_le (2 ^ binary_digits 63 d) (10 ^ (d + 2)) ≡ true) =
          and_parts _ _ (below_each 20 is_wide refl d less) in
          (few d, d + 2, eqb-true _ _ both.0, leb-true _ _ both.1)
      | inr more ↦ (
        few d,
        min 254 (d + 2),
        omega (arith, more),
        omega (
          arith,
          pow-le-pow_right {n = 2} (omega arith) {i = binary_digits 63 d} {j = 63} (few d),
          pow-le-pow_right {n = 10} (omega arith) {i = 19} {j = min 254 (d + 2)} (omega (arith, more)),
        ),
      )
    ]

module _ (s : TypingContext) where
  pub constant_typed : (value : ConstantValue) → HasValue s (constant 63 value)
  constant_typed (constants.Decimal value d) =
      let p : ℕ = binary_digits 63 d in (p, (pos (within p value), refl, below p value), near p (few d), wide d)
  constant_typed (constants.Binary value d) =
      let p : ℕ = min 63 d in (p, (pos (within p value), refl, below p value), near p (omega arith))
  constant_typed (constants.Characters text) =
      let n : ℕ = length (take longest text) in (n, n, (take longest text, refl, omega arith, omega arith), omega (arith, length-take longest text))
  constant_typed (constants.Bits bits) =
      let n : ℕ = length (take longest bits) in (n, n, (take longest bits, refl, omega arith, omega arith), omega (arith, length-take longest bits))

-- ---- what is written has room

whole : (p value : ℕ) → value < 2 ^ p → within p value ≡ value
whole p value lt = omega (arith, lt)

abbrev is_enough : (digits : ℕ) → Bool
is_enough d = nat_le (10 ^ d) (2 ^ binary_digits 63 d)

full : (d : ℕ) → 19 ≤ d → min 63 (1 + (332 * d / 100 + min 1 (332 * d % 100))) ≡ 63
full d more = omega (arith, le-div 63 (332 * d) 100 (omega arith) (omega (arith, more)))

enough : (value d : ℕ) → value < 2 ^ 63 → value < 10 ^ d → value < 2 ^ binary_digits 63 d
enough value d low high =
    elim (cases_lt d 19) [
      | inl less ↦ omega (arith, high, leb-true (10 ^ d) (2 ^ binary_digits 63 d) (below_each 19 is_enough refl d less))
      | inr more ↦ subst (λ p. value < 2 ^ p) (sym (full d more)) low
    ]

pub constants_are_as_written : ConstantsAreAsWritten
constants_are_as_written (constants.Decimal value d) h =
    ap (λ n. Number (pos n)) (whole (binary_digits 63 d) value (enough value d h.0 h.1))
constants_are_as_written (constants.Binary value d) h =
    let same : min 63 d ≡ d = omega (arith, h.1) in
    ap (λ n. Number (pos n)) (whole (min 63 d) value (subst (λ p. value < 2 ^ p) (sym same) h.0))
constants_are_as_written (constants.Characters text) h = ap Characters (take_all longest text h)
constants_are_as_written (constants.Bits bits) h = ap Bits (take_all longest bits h)
