-- An operation on operands of its types gives a value of its type, or raises a condition: it never misfits.
use Rattle.std.specs.Prelude.{◌≡◌, ℕ, zero, suc, ◌+◌, ◌-◌, ◌%◌, ◌≤◌, ◌<◌, ◌^◌, max, nat_le, Bool, true, false}
use Rattle.std.specs.Prelude.{not, ℤ, pos, negsuc, ◌+ℤ◌, ◌-ℤ◌, ◌*ℤ◌, neg_ℤ, unsigned_abs, int_lt, int_le, int_div, Ok, Err}
use Rattle.std.specs.Prelude.{Option, Some, None, option_map, List, [], ◌∷◌, ◌++◌, ◌⊎◌, length, map, take, drop, replicate, if◌then◌else◌, refl}
use Rattle.std.proofs.Common.{arith, sym, ap, ◌∙◌, subst, inl, inr, ltb-true, leb-true, le-leb, pow_mono, lt_of_lt_of_le}
use Rattle.std.proofs.Common.{ltb, pow-suc, pow-add, pow_pos, mul-le-mul, le_of_lt}
use Rattle.std.proofs.lemmas.Bool.{cases_lt, cond_both}
use Rattle.std.proofs.lemmas.Int.{unsigned_abs-mul}
use Rattle.std.specs.Prelude.{◌*◌, min}
use lib.IntN.{sub_ℕ}
use Rattle.std.proofs.Common.{le_trans, true≢false, mod-lt, length-append, length-take, length-drop}
use Rattle.std.proofs.lemmas.List.{length-map, length-replicate}
use Rattle.std.proofs.lemmas.List.FromFn.{length-map-range_with_len}
use Rattle.std.proofs.lemmas.Fmt.{length-decimal-le}
use Rattle.std.specs.Fmt.{signed_decimal}
use Rattle.std.specs.Int.{int_rem_euclid}
use Rattle.std.specs.List.{starts_with}
use Rattle.std.specs.Prelude.{nat_eq, slice_index_or, ◌&&◌, ◌||◌}
use Rattle.pli_map.specs.Description.{Description, FixedBinary, Character, Varying, Bit}
use Rattle.pli_operation.specs.declared.operation.Operation.{Operation}
use Rattle.pli_operation.specs.declared.operation.Operation.TheVariants.{Negate, Absolute, Sign, Not, LengthOf, FromBits, ToCharacters, Add, Subtract, Multiply, Modulo, Greatest, Least, Divide, Compare, Concatenate, And, Or, Index, Rest, Substring, Within}
use Rattle.pli_operation.specs.Operations.{Calculation, Calculates, RaisesCondition, OutOfString, Misfits, as_number, as_characters, as_bits, calculated, in_columns, fitted_to, is_within_limit, widest, as_bit, are_comparable, compared}
use Rattle.pli_operation.specs.declared.operation.Relation.{Relation}
use Rattle.pli_operation.specs.declared.operation.Relation.TheVariants.{Equal, Unequal}
use Rattle.pli_value.specs.Numbers.{has_digits, within, quotient, remainder, sign_of, greatest_of, least_of}
use Rattle.pli_value.specs.Strings.{piece, concatenation, first_place, one_after, index_of, fitted}
use Rattle.pli_value.specs.Strings.{by_place, conjunction, disjunction, substring, substring_from, part_of, rest_of}
use Rattle.pli_value.specs.Conversions.{number_characters, bit_character, bit_characters}
use Rattle.pli_value.specs.Locators.{same_locator}
use Rattle.pli_value.specs.declared.number.Raised.TheVariants as raised
use Rattle.pli_value.specs.Value.{Value, Number, Characters, Bits, Located}
use Rattle.pli_value.specs.declared.locator.Locator.{Locator}
use Rattle.pli_value.specs.declared.locator.Locator.TheVariants as locators
use Rattle.pli_type_tree.specs.TypedOperations.{comes_to}
use Rattle.pli_type_tree.specs.TypedTree.{TypedOperation, Fit, Operate}
use Rattle.pli_type_tree.specs.ValueTypes.{StringKind, OfCharacters, OfBits, ValueType, Numbers, Strings, Pointers, Offsets, IsPointer, IsOffset, IsEquality, IsOf, AreOf, Computes, Operates, longest, length_precision, HaveColumns, type_held, IsFitted, OnNumbers, OnStrings, OnLocators}

-- what an operation comes to is of a type; after a condition that is 0
abbrev pub IsCalculated : ValueType → Calculation → Type 0
IsCalculated t (Calculates v) = IsOf t v
IsCalculated t (RaisesCondition c) = IsOf t (Number (pos 0))
IsCalculated t OutOfString = Unit {0}
IsCalculated t Misfits = ⊥

some_same : {A : Type 0} {x y : A} → Some x ≡ Some y → x ≡ y
some_same e = cc

false_true : false ≡ true → ⊥
false_true e = absurd (cc)

-- operands, one by one
one : (P : List Value → Type 0) (t : ValueType) (vs : List Value) → AreOf (t ∷ []) vs
    → ((v : Value) → IsOf t v → P (v ∷ [])) → P vs
one P t [] b f = absurd b
one P t (v ∷ []) b f = f v b.0
one P t (v ∷ w ∷ vs) b f = absurd b.1

two : (P : List Value → Type 0) (t u : ValueType) (vs : List Value) → AreOf (t ∷ u ∷ []) vs
    → ((v w : Value) → IsOf t v → IsOf u w → P (v ∷ w ∷ [])) → P vs
two P t u [] b f = absurd b
two P t u (v ∷ vs) b f = one (λ ws. P (v ∷ ws)) u vs b.1 (λ w h. f v w b.0 h)

three : (P : List Value → Type 0) (t u r : ValueType) (vs : List Value) → AreOf (t ∷ u ∷ r ∷ []) vs
    → ((v w z : Value) → IsOf t v → IsOf u w → IsOf r z → P (v ∷ w ∷ z ∷ [])) → P vs
three P t u r [] b f = absurd b
three P t u r (v ∷ vs) b f = two (λ ws. P (v ∷ ws)) u r vs b.1 (λ w z h k. f v w z b.0 h k)

number : (P : Value → Type 0) (p : ℕ) (v : Value) → IsOf (Numbers p) v
    → ((x : ℤ) → unsigned_abs x < 2 ^ p → P (Number x)) → P v
number P p v h f = subst P (sym h.1) (f h.0 h.2)

string : (P : Value → Type 0) (k : StringKind) (a b : ℕ) (v : Value) → IsOf (Strings k a b) v
    → ((s : List ℕ) → k ≡ OfCharacters → a ≤ length s → length s ≤ b → P (Characters s))
    → ((s : List Bool) → k ≡ OfBits → a ≤ length s → length s ≤ b → P (Bits s)) → P v
string P OfCharacters a b v h f g = subst P (sym h.1) (f h.0 refl h.2 h.3)
string P OfBits a b v h f g = subst P (sym h.1) (g h.0 refl h.2 h.3)

pointer : (P : Value → Type 0) (v : Value) → IsOf Pointers v → ((l : Locator) → IsPointer l → P (Located l)) → P v
pointer P v h f = subst P (sym h.1) (f h.0 h.2)

offset : (P : Value → Type 0) (v : Value) → IsOf Offsets v → ((l : Locator) → IsOffset l → P (Located l)) → P v
offset P v h f = subst P (sym h.1) (f h.0 h.2)

-- a pointer is beside a pointer, and an offset beside an offset
pointers_comparable : (l r : Locator) → IsPointer l → IsPointer r → are_comparable l r ≡ true
pointers_comparable locators.Null locators.Null p q = refl
pointers_comparable locators.Null (locators.Pointer h y) p q = refl
pointers_comparable locators.Null (locators.Offset y) p q = absurd (false_true q)
pointers_comparable (locators.Pointer g x) locators.Null p q = refl
pointers_comparable (locators.Pointer g x) (locators.Pointer h y) p q = refl
pointers_comparable (locators.Pointer g x) (locators.Offset y) p q = absurd (false_true q)
pointers_comparable (locators.Offset x) r p q = absurd (false_true p)

offsets_comparable : (l r : Locator) → IsOffset l → IsOffset r → are_comparable l r ≡ true
offsets_comparable (locators.Offset x) (locators.Offset y) p q = refl
offsets_comparable (locators.Offset x) locators.Null p q = absurd (false_true q)
offsets_comparable (locators.Offset x) (locators.Pointer h y) p q = absurd (false_true q)
offsets_comparable locators.Null r p q = absurd (false_true p)
offsets_comparable (locators.Pointer g x) r p q = absurd (false_true p)

module _ (n : ℕ) where
  -- an operation on one number
  on_number : (op : Operation) (t : ValueType) (ts : List ValueType) (vs : List Value) (p : ℕ) → ts ≡ Numbers p ∷ []
      → AreOf ts vs → ((x : ℤ) → unsigned_abs x < 2 ^ p → IsCalculated t (calculated n op (Number x ∷ [])))
      → IsCalculated t (calculated n op vs)
  on_number op t ts vs p e b f =
      one (λ vs. IsCalculated t (calculated n op vs)) (Numbers p) vs (subst (λ ts. AreOf ts vs) e b)
      (λ v h. number (λ v. IsCalculated t (calculated n op (v ∷ []))) p v h f)

  on_numbers : (op : Operation) (t : ValueType) (ts : List ValueType) (vs : List Value) (p q : ℕ)
      → ts ≡ Numbers p ∷ Numbers q ∷ [] → AreOf ts vs
      → ((x y : ℤ) → unsigned_abs x < 2 ^ p → unsigned_abs y < 2 ^ q
      → IsCalculated t (calculated n op (Number x ∷ Number y ∷ []))) → IsCalculated t (calculated n op vs)
  on_numbers op t ts vs p q e b f =
      two (λ vs. IsCalculated t (calculated n op vs)) (Numbers p) (Numbers q) vs (subst (λ ts. AreOf ts vs) e b)
      (λ v w h k. number (λ v. IsCalculated t (calculated n op (v ∷ w ∷ []))) p v h
      (λ x hx. number (λ w. IsCalculated t (calculated n op (Number x ∷ w ∷ []))) q w k (λ y hy. f x y hx hy)))

-- 0 has no digit
zero_is : (p : ℕ) → IsOf (Numbers p) (Number (pos 0))
zero_is p = let least : 1 ≤ 2 ^ p = pow_pos p in (pos 0, refl, omega (arith, least))

within_is : (p : ℕ) (x : ℤ) → IsCalculated (Numbers p) (as_number (within p x))
within_is p x = by (has_digits p x) refl
  where
    by : (b : Bool) → has_digits p x ≡ b → IsCalculated (Numbers p) (as_number (if b then Ok x else Err raised.Overflow))
    by true e = (x, refl, ltb-true (unsigned_abs x) (2 ^ p) e)
    by false e = zero_is p

-- a number that has so few digits, within any bound
kept_is : (n p : ℕ) (x : ℤ) → unsigned_abs x < 2 ^ p → IsCalculated (Numbers p) (as_number (within n x))
kept_is n p x small = by (has_digits n x)
  where
    by : (b : Bool) → IsCalculated (Numbers p) (as_number (if b then Ok x else Err raised.Overflow))
    by true = (x, refl, small)
    by false = zero_is p

-- a number within the lesser of two bounds
narrow_is : (p n : ℕ) (x : ℤ) → IsCalculated (Numbers p) (as_number (within (min p n) x))
narrow_is p n x = by (has_digits (min p n) x) refl
  where
    below : min p n ≤ p
    below = omega arith

    by : (b : Bool) → has_digits (min p n) x ≡ b → IsCalculated (Numbers p) (as_number (if b then Ok x else Err raised.Overflow))
    by true e = (x, refl, lt_of_lt_of_le (ltb-true (unsigned_abs x) (2 ^ min p n) e) (pow_mono below))
    by false e = zero_is p

-- a number within both bounds
both_small : (m n k : ℕ) → m < 2 ^ n → m < 2 ^ k → m < 2 ^ min n k
both_small m n k f g = by (cases_lt n k)
  where
    by : (n < k) ⊎ (k ≤ n) → m < 2 ^ min n k
    by (inl lt) = let e : n ≡ min n k = omega (arith, lt) in subst (λ j. m < 2 ^ j) e f
    by (inr le) = let e : k ≡ min n k = omega (arith, le) in subst (λ j. m < 2 ^ j) e g

within_both : (n k : ℕ) (x : ℤ) → unsigned_abs x < 2 ^ k → IsCalculated (Numbers (min n k)) (as_number (within n x))
within_both n k x small = by (has_digits n x) refl
  where
    by : (b : Bool) → has_digits n x ≡ b → IsCalculated (Numbers (min n k)) (as_number (if b then Ok x else Err raised.Overflow))
    by true e = (x, refl, both_small (unsigned_abs x) n k (ltb-true (unsigned_abs x) (2 ^ n) e) small)
    by false e = zero_is (min n k)

difference_le : (a b : ℕ) → unsigned_abs (sub_ℕ a b) ≤ a + b
difference_le a b =
    cond_both (ltb a b) (negsuc (b - suc a)) (pos (a - b)) (λ z. unsigned_abs z ≤ a + b) (λ e. omega (arith, ltb-true a b e)) (λ e. omega arith)

sum_le : (x y : ℤ) → unsigned_abs (x +ℤ y) ≤ unsigned_abs x + unsigned_abs y
sum_le (pos a) (pos b) = omega arith
sum_le (pos a) (negsuc b) = difference_le a (suc b)
sum_le (negsuc a) (pos b) = omega (arith, difference_le b (suc a))
sum_le (negsuc a) (negsuc b) = omega arith

sum_small : (x y : ℤ) (p q : ℕ) → unsigned_abs x < 2 ^ p → unsigned_abs y < 2 ^ q → unsigned_abs (x +ℤ y) < 2 ^ (max p q + 1)
sum_small x y p q hx hy =
    let m = max p q in
    let left : 2 ^ p ≤ 2 ^ m = let le : p ≤ m = omega arith in pow_mono le in
    let right : 2 ^ q ≤ 2 ^ m = let le : q ≤ m = omega arith in pow_mono le in
    let e : suc m ≡ m + 1 = omega arith in
    subst (λ k. unsigned_abs (x +ℤ y) < 2 ^ k) e (omega (arith, sum_le x y, hx, hy, left, right, pow-suc 2 m))

product_small : (x y : ℤ) (p q : ℕ) → unsigned_abs x < 2 ^ p → unsigned_abs y < 2 ^ q → unsigned_abs (x *ℤ y) < 2 ^ (p + q + 1)
product_small x y p q hx hy =
    let top : unsigned_abs x * unsigned_abs y ≤ 2 ^ p * 2 ^ q = mul-le-mul (le_of_lt hx) (le_of_lt hy) in
    let least : 1 ≤ 2 ^ (p + q) = pow_pos (p + q) in
    let e : suc (p + q) ≡ p + q + 1 = omega arith in
    subst (λ k. unsigned_abs (x *ℤ y) < 2 ^ k) e
    (omega (arith, unsigned_abs-mul x y, top, pow-add 2 p q, pow-suc 2 (p + q), least))

-- magnitudes
negated : (x : ℤ) → unsigned_abs (neg_ℤ x) ≡ unsigned_abs x
negated (pos zero) = refl
negated (pos (suc n)) = refl
negated (negsuc n) = refl

sign_small : (x : ℤ) → unsigned_abs (sign_of x) < 2 ^ 1
sign_small x = by (int_lt x (pos 0)) (int_lt (pos 0) x)
  where
    by : (b c : Bool) → unsigned_abs (if b then neg_ℤ (pos 1) else if c then pos 1 else pos 0) < 2
    by true c = omega arith
    by false true = omega arith
    by false false = omega arith

either_small : (b : Bool) (x y : ℤ) (p q : ℕ) → unsigned_abs x < 2 ^ p → unsigned_abs y < 2 ^ q
    → unsigned_abs (if b then x else y) < 2 ^ max p q
either_small true x y p q hx hy = lt_of_lt_of_le hx (pow_mono (omega arith))
either_small false x y p q hx hy = lt_of_lt_of_le hy (pow_mono (omega arith))

within_divisor : (a d k : ℕ) → d ≡ suc k → a % d < d
within_divisor a d k e = let h : 0 < d = omega (arith, e) in mod-lt a h

remainder_small : (x y : ℤ) (q k : ℕ) → unsigned_abs y ≡ suc k → unsigned_abs y < 2 ^ q
    → unsigned_abs (int_rem_euclid x y) < 2 ^ q
remainder_small (pos a) y q k e h = let m = within_divisor a (unsigned_abs y) k e in omega (arith, m, h)
remainder_small (negsuc a) y q k e h = let m = within_divisor a (unsigned_abs y) k e in omega (arith, m, h, e)

remainder_is : (x y : ℤ) (q : ℕ) → unsigned_abs y < 2 ^ q → IsCalculated (Numbers q) (as_number (remainder x y))
remainder_is x (pos zero) q h = zero_is q
remainder_is x (pos (suc n)) q h = (int_rem_euclid x (pos (suc n)), refl, remainder_small x (pos (suc n)) q n refl h)
remainder_is x (negsuc n) q h = (int_rem_euclid x (negsuc n), refl, remainder_small x (negsuc n) q n refl h)

quotient_is : (p : ℕ) (x y : ℤ) → IsCalculated (Numbers p) (as_number (quotient (min p widest) x y))
quotient_is p x (pos zero) = zero_is p
quotient_is p x (pos (suc n)) = narrow_is p widest (int_div x (pos (suc n)))
quotient_is p x (negsuc n) = narrow_is p widest (int_div x (negsuc n))

-- lengths
length_small : (n : ℕ) → n ≤ longest → n < 2 ^ length_precision
length_small n le = omega (arith, le)

pieces_short : {A : Type 0} (s : List A) (part : ℕ × ℕ) (b : ℕ) → length s ≤ b → length (piece s part) ≤ b
pieces_short s part b le =
    omega (arith, length-take part.1 (drop part.0 s), length-drop part.0 s, le)

characters_short : (b : ℕ) (s : List ℕ) (o : Option (ℕ × ℕ)) → length s ≤ b
    → IsCalculated (Strings OfCharacters 0 b) (as_characters (option_map (piece s) o))
characters_short b s None le = tt
characters_short b s (Some part) le = (piece s part, refl, omega arith, pieces_short s part b le)

bits_short : (b : ℕ) (s : List Bool) (o : Option (ℕ × ℕ)) → length s ≤ b
    → IsCalculated (Strings OfBits 0 b) (as_bits (option_map (piece s) o))
bits_short b s None le = tt
bits_short b s (Some part) le = (piece s part, refl, omega arith, pieces_short s part b le)

joined_characters : (s t : List ℕ) → IsCalculated (Strings OfCharacters 0 longest) (as_characters (concatenation s t))
joined_characters s t = by (nat_le (length s + length t) 32767) refl
  where
    by : (b : Bool) → nat_le (length s + length t) 32767 ≡ b
        → IsCalculated (Strings OfCharacters 0 longest) (as_characters (if b then Some (s ++ t) else None))
    by true e = (s ++ t, refl, omega arith, omega (arith, length-append s t, leb-true (length s + length t) 32767 e))
    by false e = tt

joined_bits : (s t : List Bool) → IsCalculated (Strings OfBits 0 longest) (as_bits (concatenation s t))
joined_bits s t = by (nat_le (length s + length t) 32767) refl
  where
    by : (b : Bool) → nat_le (length s + length t) 32767 ≡ b
        → IsCalculated (Strings OfBits 0 longest) (as_bits (if b then Some (s ++ t) else None))
    by true e = (s ++ t, refl, omega arith, omega (arith, length-append s t, leb-true (length s + length t) 32767 e))
    by false e = tt

place_small : (sought s : List ℕ) → first_place sought s ≤ length s
place_small sought [] = omega arith
place_small sought (x ∷ xs) = by (starts_with nat_eq (x ∷ xs) sought) (first_place sought xs) (place_small sought xs)
  where
    by : (b : Bool) (k : ℕ) → k ≤ length xs → (if b then 1 else one_after k) ≤ suc (length xs)
    by true k le = omega arith
    by false zero le = omega arith
    by false (suc k) le = omega (arith, le)

index_small : (s t : List ℕ) → index_of s t ≤ length s
index_small s [] = omega arith
index_small s (x ∷ xs) = place_small (x ∷ xs) s

index_is : (s t : List ℕ) → length s ≤ longest → IsOf (Numbers length_precision) (Number (pos (index_of s t)))
index_is s t le = (pos (index_of s t), refl, length_small (index_of s t) (le_trans (index_small s t) le))

-- the digits of a number and its sign
signed_short : (k : ℕ) (x : ℤ) → unsigned_abs x < 10 ^ k → unsigned_abs x < 2 ^ 64 → length (signed_decimal x) ≤ suc k
signed_short zero (pos n) h low = omega (arith, length-decimal-le 1 n (omega arith) (omega arith) low)
signed_short (suc k) (pos n) h low = omega (arith, length-decimal-le (suc k) n (omega arith) h low)
signed_short zero (negsuc n) h low = absurd (omega arith)
signed_short (suc k) (negsuc n) h low = omega (arith, length-decimal-le (suc k) (suc n) (omega arith) h low)

-- a number in columns
columns_is : (width p : ℕ) (x : ℤ) → HaveColumns width p → unsigned_abs x < 2 ^ p
    → IsCalculated (Strings OfCharacters width width) (in_columns width x)
columns_is width p x room h = by (nat_le (length (signed_decimal x)) width) (le-leb (length (signed_decimal x)) width short)
  where
    top : 2 ^ p ≤ 2 ^ 64
    top = let le : p ≤ 64 = omega (arith, room.0) in pow_mono le

    short : length (signed_decimal x) ≤ width
    short = omega (arith, signed_short room.1 x (lt_of_lt_of_le h room.3) (lt_of_lt_of_le h top), room.2)

    blank : ℕ
    blank = 32

    wide : length (number_characters width x) ≡ width
    wide =
        omega (
          arith,
          short,
          length-append (replicate (width - length (signed_decimal x)) 32) (signed_decimal x),
          length-replicate (width - length (signed_decimal x)) blank,
        )

    by : (b : Bool) → b ≡ true
        → IsCalculated (Strings OfCharacters width width) (if b then Calculates (Characters (number_characters width x)) else Misfits)
    by true e = (number_characters width x, refl, omega (arith, wide), omega (arith, wide))
    by false e = absurd (true≢false (sym e))

-- a value fitted to a description
pub fitted_length : {A : Type 0} (extension : A) (n : ℕ) (s : List A) → length (fitted extension n s) ≡ n
fitted_length extension n s =
    omega (
      arith,
      length-append (take n s) (replicate (n - length s) extension),
      length-take n s,
      length-replicate (n - length s) extension,
    )

fitted_is : (d : Description) (u t : ValueType) (v : Value) → IsFitted d u → type_held d ≡ Some t → IsOf u v
    → IsCalculated t (fitted_to d v)
fitted_is (FixedBinary precision) (Numbers p) t v fit e h =
    number (λ v. IsCalculated t (fitted_to (FixedBinary precision) v)) p v h
    (λ x hx. subst (λ t. IsCalculated t (as_number (within precision x))) (some_same e) (within_is precision x))
fitted_is (Character n) (Strings OfCharacters a b) t v fit e h =
    subst (λ t. IsCalculated t (fitted_to (Character n) v)) (some_same e)
    (string (λ v. IsCalculated (Strings OfCharacters n n) (fitted_to (Character n) v)) OfCharacters a b v h
    (λ s k le1 le2. (fitted 32 n s, refl, omega (arith, fitted_length 32 n s), omega (arith, fitted_length 32 n s)))
    (λ s k le1 le2. absurd (cc)))
fitted_is (Varying n) (Strings OfCharacters a b) t v fit e h =
    subst (λ t. IsCalculated t (fitted_to (Varying n) v)) (some_same e)
    (string (λ v. IsCalculated (Strings OfCharacters 0 n) (fitted_to (Varying n) v)) OfCharacters a b v h
    (λ s k le1 le2. (take n s, refl, omega arith, omega (arith, length-take n s))) (λ s k le1 le2. absurd (cc)))
fitted_is (Bit n) (Strings OfBits a b) t v fit e h =
    subst (λ t. IsCalculated t (fitted_to (Bit n) v)) (some_same e)
    (string (λ v. IsCalculated (Strings OfBits n n) (fitted_to (Bit n) v)) OfBits a b v h (λ s k le1 le2. absurd (cc))
    (λ s k le1 le2. by (nat_le n 32767) s))
  where
    by : (b : Bool) (s : List Bool)
        → IsCalculated (Strings OfBits n n) (if b then Calculates (Bits (fitted false n s)) else OutOfString)
    by true s = (fitted false n s, refl, omega (arith, fitted_length false n s), omega (arith, fitted_length false n s))
    by false s = tt
fitted_is d u t v fit e h = absurd fit

other_way : (p q : ℕ) → max p q ≡ max q p
other_way p q = omega arith

not_both : OfBits ≡ OfCharacters → ⊥
not_both e = absurd (cc)

both_short : (f : Bool → Bool → Bool) (s r : List Bool) (b d : ℕ) → length s ≤ b → length r ≤ d
    → length (by_place false f s r) ≤ max b d
both_short f s r b d le1 le2 =
    omega (
      arith,
      le1,
      le2,
      length-map-range_with_len (λ k. f (slice_index_or s k false) (slice_index_or r k false)) 0 (max (length s) (length r)),
    )

-- two strings of one kind
on_strings : (P : List Value → Type 0) (k : StringKind) (a b c d : ℕ) (ts : List ValueType) (vs : List Value)
    → ts ≡ Strings k a b ∷ Strings k c d ∷ [] → AreOf ts vs
    → ((s t : List ℕ) → k ≡ OfCharacters → length s ≤ b → length t ≤ d → P (Characters s ∷ Characters t ∷ []))
    → ((s t : List Bool) → k ≡ OfBits → length s ≤ b → length t ≤ d → P (Bits s ∷ Bits t ∷ [])) → P vs
on_strings P OfCharacters a b c d ts vs e h f g =
    two P (Strings OfCharacters a b) (Strings OfCharacters c d) vs (subst (λ ts. AreOf ts vs) e h)
    (λ v w hv hw. string (λ v. P (v ∷ w ∷ [])) OfCharacters a b v hv
    (λ s k le1 le2. string (λ w. P (Characters s ∷ w ∷ [])) OfCharacters c d w hw
    (λ t k le3 le4. f s t refl le2 le4) (λ t k le3 le4. absurd (cc))) (λ s k le1 le2. absurd (cc)))
on_strings P OfBits a b c d ts vs e h f g =
    two P (Strings OfBits a b) (Strings OfBits c d) vs (subst (λ ts. AreOf ts vs) e h)
    (λ v w hv hw. string (λ v. P (v ∷ w ∷ [])) OfBits a b v hv (λ s k le1 le2. absurd (cc))
    (λ s k le1 le2. string (λ w. P (Bits s ∷ w ∷ [])) OfBits c d w hw (λ t k le3 le4. absurd (cc))
    (λ t k le3 le4. g s t refl le2 le4)))

on_string : (P : List Value → Type 0) (k : StringKind) (a b : ℕ) (ts : List ValueType) (vs : List Value)
    → ts ≡ Strings k a b ∷ [] → AreOf ts vs
    → ((s : List ℕ) → k ≡ OfCharacters → a ≤ length s → length s ≤ b → P (Characters s ∷ []))
    → ((s : List Bool) → k ≡ OfBits → a ≤ length s → length s ≤ b → P (Bits s ∷ [])) → P vs
on_string P k a b ts vs e h f g =
    one P (Strings k a b) vs (subst (λ ts. AreOf ts vs) e h) (λ v hv. string (λ v. P (v ∷ [])) k a b v hv f g)

module _ (n : ℕ) where
  -- what an operation on operands of its types comes to
  computed_fits : (op : Operation) (ts : List ValueType) (t : ValueType) (vs : List Value) → Computes n op ts t
      → AreOf ts vs → IsCalculated t (calculated n op vs)
  unfolding calculated
  computed_fits Negate ts t vs h b =
      on_number n Negate t ts vs h.0 h.1 b
      (λ x hx. subst (λ t. IsCalculated t (as_number (within widest (neg_ℤ x)))) (sym h.2)
      (kept_is widest h.0 (neg_ℤ x) (subst (λ m. m < 2 ^ h.0) (sym (negated x)) hx)))
  computed_fits Absolute ts t vs h b =
      on_number n Absolute t ts vs h.0 h.1 b
      (λ x hx. subst (λ t. IsCalculated t (as_number (within widest (pos (unsigned_abs x))))) (sym h.2)
      (kept_is widest h.0 (pos (unsigned_abs x)) hx))
  computed_fits Sign ts t vs h b =
      on_number n Sign t ts vs h.0 h.1 b
      (λ x hx. subst (λ t. IsOf t (Number (sign_of x))) (sym h.2) (sign_of x, refl, sign_small x))
  computed_fits Not ts t vs h b =
      on_string (λ vs. IsCalculated t (calculated n Not vs)) h.0 h.1 h.2 ts vs h.3 b (λ s k le1 le2. absurd (not_both (sym h.4.0 ∙ k)))
      (λ s k le1 le2. subst (λ t. IsOf t (Bits (map not s))) (sym h.4.1)
      (map not s, refl, omega (arith, le1, length-map s not), omega (arith, le2, length-map s not)))
  computed_fits LengthOf ts t vs h b =
      on_string (λ vs. IsCalculated t (calculated n LengthOf vs)) h.0 h.1 h.2 ts vs h.3 b
      (λ s k le1 le2. subst (λ t. IsOf t (Number (pos (length s)))) (sym h.4.1)
      (pos (length s), refl, length_small (length s) (le_trans le2 h.4.0)))
      (λ s k le1 le2. subst (λ t. IsOf t (Number (pos (length s)))) (sym h.4.1)
      (pos (length s), refl, length_small (length s) (le_trans le2 h.4.0)))
  computed_fits FromBits ts t vs h b =
      on_string (λ vs. IsCalculated t (calculated n FromBits vs)) h.0 h.1 h.2 ts vs h.3 b (λ s k le1 le2. absurd (not_both (sym h.4.0 ∙ k)))
      (λ s k le1 le2. subst (λ t. IsOf t (Characters (bit_characters s))) (sym h.4.1)
      (bit_characters s, refl, omega (arith, le1, length-map s bit_character), omega (arith, le2, length-map s bit_character)))
  computed_fits (ToCharacters width) ts t vs h b =
      on_number n (ToCharacters width) t ts vs h.0 h.1 b
      (λ x hx. subst (λ t. IsCalculated t (in_columns width x)) (sym h.2.1) (columns_is width h.0 x h.2.0 hx))
  computed_fits Add ts t vs h b =
      on_numbers n Add t ts vs h.0 h.1 h.2 b
      (λ x y hx hy. subst (λ t. IsCalculated t (as_number (within n (x +ℤ y)))) (sym h.3)
      (within_both n (max h.0 h.1 + 1) (x +ℤ y) (sum_small x y h.0 h.1 hx hy)))
  computed_fits Subtract ts t vs h b =
      on_numbers n Subtract t ts vs h.0 h.1 h.2 b
      (λ x y hx hy. subst (λ t. IsCalculated t (as_number (within n (x -ℤ y)))) (sym h.3)
      (within_both n (max h.0 h.1 + 1) (x -ℤ y)
      (sum_small x (neg_ℤ y) h.0 h.1 hx (subst (λ m. m < 2 ^ h.1) (sym (negated y)) hy))))
  computed_fits Multiply ts t vs h b =
      on_numbers n Multiply t ts vs h.0 h.1 h.2 b
      (λ x y hx hy. subst (λ t. IsCalculated t (as_number (within n (x *ℤ y)))) (sym h.3)
      (within_both n (h.0 + h.1 + 1) (x *ℤ y) (product_small x y h.0 h.1 hx hy)))
  computed_fits Modulo ts t vs h b =
      on_numbers n Modulo t ts vs h.0 h.1 h.2 b
      (λ x y hx hy. subst (λ t. IsCalculated t (as_number (remainder x y))) (sym h.3) (remainder_is x y h.1 hy))
  computed_fits Greatest ts t vs h b =
      on_numbers n Greatest t ts vs h.0 h.1 h.2 b
      (λ x y hx hy. subst (λ t. IsOf t (Number (greatest_of x y))) (sym h.3)
      (greatest_of x y, refl, subst (λ m. unsigned_abs (greatest_of x y) < 2 ^ m) (other_way h.1 h.0) (either_small (int_le x y) y x h.1 h.0 hy hx)))
  computed_fits Least ts t vs h b =
      on_numbers n Least t ts vs h.0 h.1 h.2 b
      (λ x y hx hy. subst (λ t. IsOf t (Number (least_of x y))) (sym h.3)
      (least_of x y, refl, either_small (int_le x y) x y h.0 h.1 hx hy))
  computed_fits (Divide precision) ts t vs h b =
      on_numbers n (Divide precision) t ts vs h.0 h.1 h.2 b
      (λ x y hx hy. subst (λ t. IsCalculated t (as_number (quotient (min precision widest) x y))) (sym h.3) (quotient_is precision x y))
  computed_fits (Compare relation) ts t vs h b = by h.0
    where
      bit : (c : Bool) → IsOf t (Bits (c ∷ []))
      bit c = subst (λ t. IsOf t (Bits (c ∷ []))) (sym h.1) (c ∷ [], refl, omega arith, omega arith)

      equality : (l r : Locator) (relation : Relation) → are_comparable l r ≡ true → IsEquality relation → IsCalculated t (compared relation l r)
      equality l r Equal beside is = subst (λ b. IsCalculated t (if b then as_bit (same_locator l r) else Misfits)) (sym beside) (bit _)
      equality l r Unequal beside is = subst (λ b. IsCalculated t (if b then as_bit (not (same_locator l r)) else Misfits)) (sym beside) (bit _)
      equality l r other beside is = absurd is

      locators_fit : IsEquality relation → OnLocators ts → IsCalculated t (calculated n (Compare relation) vs)
      locators_fit is (inl e) =
          two (λ vs. IsCalculated t (calculated n (Compare relation) vs)) Pointers Pointers vs (subst (λ ts. AreOf ts vs) e b)
          (λ v w hv hw. pointer (λ v. IsCalculated t (calculated n (Compare relation) (v ∷ w ∷ []))) v hv
          (λ l hl. pointer (λ w. IsCalculated t (calculated n (Compare relation) (Located l ∷ w ∷ []))) w hw
          (λ r hr. equality l r relation (pointers_comparable l r hl hr) is)))
      locators_fit is (inr e) =
          two (λ vs. IsCalculated t (calculated n (Compare relation) vs)) Offsets Offsets vs (subst (λ ts. AreOf ts vs) e b)
          (λ v w hv hw. offset (λ v. IsCalculated t (calculated n (Compare relation) (v ∷ w ∷ []))) v hv
          (λ l hl. offset (λ w. IsCalculated t (calculated n (Compare relation) (Located l ∷ w ∷ []))) w hw
          (λ r hr. equality l r relation (offsets_comparable l r hl hr) is)))

      by : (OnNumbers ts (λ p q. Unit {0}) ⊎ OnStrings ts (λ k b d. Unit {0}) ⊎ (IsEquality relation × OnLocators ts))
          → IsCalculated t (calculated n (Compare relation) vs)
      by (inl g) = on_numbers n (Compare relation) t ts vs g.0 g.1 g.2 b (λ x y hx hy. bit _)
      by (inr (inl g)) =
          on_strings (λ vs. IsCalculated t (calculated n (Compare relation) vs)) g.0 g.1 g.2 g.3 g.4 ts vs g.5 b
          (λ s r k le1 le2. bit _) (λ s r k le1 le2. bit _)
      by (inr (inr g)) = locators_fit g.0 g.1
  computed_fits Concatenate ts t vs h b =
      on_strings (λ vs. IsCalculated t (calculated n Concatenate vs)) h.0 h.1 h.2 h.3 h.4 ts vs h.5 b
      (λ s r k le1 le2. subst (λ t. IsCalculated t (as_characters (concatenation s r))) (sym (h.6 ∙ ap (λ k. Strings k 0 longest) k)) (joined_characters s r))
      (λ s r k le1 le2. subst (λ t. IsCalculated t (as_bits (concatenation s r))) (sym (h.6 ∙ ap (λ k. Strings k 0 longest) k)) (joined_bits s r))
  computed_fits And ts t vs h b =
      on_strings (λ vs. IsCalculated t (calculated n And vs)) h.0 h.1 h.2 h.3 h.4 ts vs h.5 b (λ s r k le1 le2. absurd (not_both (sym h.6.0 ∙ k)))
      (λ s r k le1 le2. subst (λ t. IsOf t (Bits (conjunction s r))) (sym h.6.1)
      (conjunction s r, refl, omega arith, both_short (λ a b. a && b) s r h.2 h.4 le1 le2))
  computed_fits Or ts t vs h b =
      on_strings (λ vs. IsCalculated t (calculated n Or vs)) h.0 h.1 h.2 h.3 h.4 ts vs h.5 b (λ s r k le1 le2. absurd (not_both (sym h.6.0 ∙ k)))
      (λ s r k le1 le2. subst (λ t. IsOf t (Bits (disjunction s r))) (sym h.6.1)
      (disjunction s r, refl, omega arith, both_short (λ a b. a || b) s r h.2 h.4 le1 le2))
  computed_fits Index ts t vs h b =
      on_strings (λ vs. IsCalculated t (calculated n Index vs)) h.0 h.1 h.2 h.3 h.4 ts vs h.5 b
      (λ s r k le1 le2. subst (λ t. IsOf t (Number (pos (index_of s r)))) (sym h.6.1) (index_is s r (le_trans le1 h.6.0)))
      (λ s r k le1 le2. subst (λ t. IsOf t (Number (pos (index_of (bit_characters s) (bit_characters r))))) (sym h.6.1)
      (index_is (bit_characters s) (bit_characters r) (omega (arith, length-map s bit_character, le1, h.6.0))))
  computed_fits Rest ts t vs h b =
      two (λ vs. IsCalculated t (calculated n Rest vs)) (Strings h.0 h.1 h.2) (Numbers h.3) vs (subst (λ ts. AreOf ts vs) h.4 b)
      (λ v w hv hw. number (λ w. IsCalculated t (calculated n Rest (v ∷ w ∷ []))) h.3 w hw
      (λ i hi. string (λ v. IsCalculated t (calculated n Rest (v ∷ Number i ∷ []))) h.0 h.1 h.2 v hv
      (λ s k le1 le2. subst (λ t. IsCalculated t (as_characters (substring_from s i))) (sym (h.5 ∙ ap (λ k. Strings k 0 h.2) k)) (characters_short h.2 s (rest_of (length s) i) le2))
      (λ s k le1 le2. subst (λ t. IsCalculated t (as_bits (substring_from s i))) (sym (h.5 ∙ ap (λ k. Strings k 0 h.2) k)) (bits_short h.2 s (rest_of (length s) i) le2))))
  computed_fits Substring ts t vs h b =
      three (λ vs. IsCalculated t (calculated n Substring vs)) (Strings h.0 h.1 h.2) (Numbers h.3) (Numbers h.4) vs (subst (λ ts. AreOf ts vs) h.5 b)
      (λ v w z hv hw hz. number (λ z. IsCalculated t (calculated n Substring (v ∷ w ∷ z ∷ []))) h.4 z hz
      (λ j hj. number (λ w. IsCalculated t (calculated n Substring (v ∷ w ∷ Number j ∷ []))) h.3 w hw
      (λ i hi. string (λ v. IsCalculated t (calculated n Substring (v ∷ Number i ∷ Number j ∷ []))) h.0 h.1 h.2 v hv
      (λ s k le1 le2. subst (λ t. IsCalculated t (as_characters (substring s i j))) (sym (h.6 ∙ ap (λ k. Strings k 0 h.2) k)) (characters_short h.2 s (part_of (length s) i j) le2))
      (λ s k le1 le2. subst (λ t. IsCalculated t (as_bits (substring s i j))) (sym (h.6 ∙ ap (λ k. Strings k 0 h.2) k)) (bits_short h.2 s (part_of (length s) i j) le2)))))
  computed_fits Within ts t vs h b =
      three (λ vs. IsCalculated t (calculated n Within vs)) (Numbers h.0.0) (Numbers h.0.1) (Numbers h.0.2) vs (subst (λ ts. AreOf ts vs) h.0.3 b)
      (λ v w z hv hw hz. number (λ z. IsCalculated t (calculated n Within (v ∷ w ∷ z ∷ []))) h.0.2 z hz
      (λ j hj. number (λ w. IsCalculated t (calculated n Within (v ∷ w ∷ Number j ∷ []))) h.0.1 w hw
      (λ i hi. number (λ v. IsCalculated t (calculated n Within (v ∷ Number i ∷ Number j ∷ []))) h.0.0 v hv
      (λ x hx. subst (λ t. IsOf t (Bits (is_within_limit x i j ∷ []))) (sym h.1)
      (is_within_limit x i j ∷ [], refl, omega arith, omega arith)))))

  pub operated_fits : (op : TypedOperation) (ts : List ValueType) (t : ValueType) (vs : List Value) → Operates n op ts t
      → AreOf ts vs → IsCalculated t (comes_to n op vs)
  operated_fits (Fit d) ts t vs h b =
      one (λ vs. IsCalculated t (comes_to n (Fit d) vs)) h.0 vs (subst (λ ts. AreOf ts vs) h.1 b)
      (λ v hv. fitted_is d h.0 t v h.2 h.3 hv)
  operated_fits (Operate op) ts t vs h b = computed_fits op ts t vs h b
