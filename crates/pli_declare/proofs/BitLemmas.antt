-- A bit is in a set exactly where an attribute that has it stands.
use Rattle.std.proofs.Common.{◌≡◌, ℕ, ◌^◌, ◌*◌, ◌<◌, ◌==◌, ◌||◌, true, false, max, ap, sym, ◌∙◌, ◌⊎◌, inl, inr, arith, List, [], ◌∷◌}
use Rattle.std.specs.Int.{bit_at}
use Rattle.std.specs.Int.RustNames.{bit_or}
use Rattle.std.specs.List.{list_any}
use Rattle.std.proofs.Math.Bool.{or_assoc, or-false}
use Rattle.std.proofs.lemmas.Bool.Decides.{nat_tests}
use Rattle.std.proofs.lemmas.Bool.{cases_lt}
use Rattle.std.proofs.lemmas.Nat.{pow_pos}
use Rattle.std.proofs.lemmas.Nat.Bits.{and_pow, bit_at-lt, bit_at_or, bit_at-zero}
use Rattle.pli_base.specs.Declarations as tree
use Rattle.pli_declare.specs.Sets.{has, kind_of, set_with, set_of}

none_or_one : (x : ℕ) → x < 2 → (x ≡ 0) ⊎ (x ≡ 1)
none_or_one x h = elim (cases_lt x 1) [ inl below ↦ inl (omega arith) | inr above ↦ inr (omega arith) ]

-- a power of 2, taken x times, is that power
none_is : (k : ℕ) → 0 < k → (0 * k == k) ≡ false
none_is k h = grind (arith, nat_tests, h)

one_is : (k : ℕ) → (1 * k == k) ≡ true
one_is k = grind (arith, nat_tests)

-- a set has an attribute where its bit is 1
has_bit : (n i : ℕ) → has n (2 ^ i) ≡ (bit_at n i == 1)
has_bit n i =
    ap (λ m. m == 2 ^ i) (and_pow n i)
    ∙ elim (none_or_one (bit_at n i) (bit_at-lt n i)) [
      | inl h ↦ ap (λ x. x * 2 ^ i == 2 ^ i) h ∙ none_is (2 ^ i) (pow_pos i) ∙ sym (ap (λ x. x == 1) h)
      | inr h ↦ ap (λ x. x * 2 ^ i == 2 ^ i) h ∙ one_is (2 ^ i) ∙ sym (ap (λ x. x == 1) h)
    ]

either : (x y : ℕ) → x < 2 → y < 2 → (max x y == 1) ≡ ((x == 1) || (y == 1))
either x y h k =
    elim (none_or_one x h) [
      | inl a ↦ elim (none_or_one y k) [ inl b ↦ rw (a, b) | inr b ↦ rw (a, b) ]
      | inr a ↦ elim (none_or_one y k) [ inl b ↦ rw (a, b) | inr b ↦ rw (a, b) ]
    ]

has_either : (a b i : ℕ) → has (bit_or a b) (2 ^ i) ≡ (has a (2 ^ i) || has b (2 ^ i))
has_either a b i =
    has_bit (bit_or a b) i ∙ ap (λ x. x == 1) (bit_at_or a b i) ∙ either (bit_at a i) (bit_at b i) (bit_at-lt a i) (bit_at-lt b i)
    ∙ sym (ap (λ x. x || has b (2 ^ i)) (has_bit a i) ∙ ap (λ x. (bit_at a i == 1) || x) (has_bit b i))

has_with : (s : ℕ) (attributes : List tree.DescribedAttribute) (i : ℕ) → has (set_with s attributes) (2 ^ i) ≡ (has s (2 ^ i) || list_any (λ a. has (kind_of a) (2 ^ i)) attributes)
has_with s [] i = sym (or-false (has s (2 ^ i)))
has_with s (a ∷ attributes) i =
    has_with (bit_or s (kind_of a)) attributes i ∙ ap (λ x. x || list_any (λ a. has (kind_of a) (2 ^ i)) attributes) (has_either s (kind_of a) i) ∙ or_assoc (has s (2 ^ i)) (has (kind_of a) (2 ^ i)) (list_any (λ a'. has (kind_of a') (2 ^ i)) attributes)

pub has_all : (attributes : List tree.DescribedAttribute) (i : ℕ) → has (set_of attributes) (2 ^ i) ≡ list_any (λ a. has (kind_of a) (2 ^ i)) attributes
has_all attributes i = has_with 0 attributes i ∙ ap (λ x. x || list_any (λ a. has (kind_of a) (2 ^ i)) attributes) (has_bit 0 i ∙ ap (λ x. x == 1) (bit_at-zero i))
