-- The operations of expressions (X3.74, limits own): prefix and infix operators, built-in functions of
-- values, and conversions. With one operand: prefix `-`, ABS, SIGN, `^`, LENGTH; bits as characters; a number
-- as characters of so many columns. With two: `+`, `-`, `*`, DIVIDE to so many binary digits, MOD, MAX, MIN,
-- a comparison, `||`, `&`, `|`, INDEX, and SUBSTR without a length. With three: SUBSTR; and whether a control
-- variable has not passed its limit, with the step.
use Rattle.std.specs.Prelude.{ℕ, min, nat_le, Bool, true, false, not, ℤ, pos, neg_ℤ}
use Rattle.std.specs.Prelude.{◌+ℤ◌, ◌-ℤ◌, ◌*ℤ◌, int_le, unsigned_abs, Result, Ok, Err, Option, Some}
use Rattle.std.specs.Prelude.{None}
use Rattle.std.specs.Prelude.{List, [], ◌∷◌, length, take, if◌then◌else◌}
use Rattle.std.specs.Ordering.{int_cmp, nat_cmp, bool_cmp}
use Rattle.std.specs.Fmt.{signed_decimal}
use Rattle.std.specs.declared.cmp.Ordering.{Ordering}
use Rattle.std.specs.declared.cmp.Ordering.TheVariants as orders
use Rattle.pli_map.specs.Description.{Description, FixedBinary, Character, Varying, Bit}
use Rattle.pli_value.specs.Conversions.{number_characters, bit_characters}
use Rattle.pli_value.specs.Numbers.{within, quotient, remainder, sign_of, greatest_of, least_of}
use Rattle.pli_value.specs.Strings.{order_of, conjunction, disjunction, negation, concatenation, substring}
use Rattle.pli_value.specs.Strings.{substring_from, fitted, index_of}
pub use Rattle.pli_value.specs.Strings.{is_true}
use Rattle.pli_value.specs.Locators.{same_locator}
use Rattle.pli_value.specs.Value.{Value, Number, Characters, Bits, Located}
use Rattle.pli_value.specs.declared.locator.Locator.{Locator}
use Rattle.pli_value.specs.declared.locator.Locator.TheVariants as locators
use Rattle.pli_value.specs.declared.number.Raised.{Raised}
use Rattle.pli_operation.specs.declared.operation.Operation.{Operation}
use Rattle.pli_operation.specs.declared.operation.Operation.TheVariants.{Negate, Absolute, Sign, Not}
use Rattle.pli_operation.specs.declared.operation.Operation.TheVariants.{LengthOf, FromBits, ToCharacters}
use Rattle.pli_operation.specs.declared.operation.Operation.TheVariants.{Add, Subtract, Multiply, Modulo}
use Rattle.pli_operation.specs.declared.operation.Operation.TheVariants.{Greatest, Least, Divide, Compare}
use Rattle.pli_operation.specs.declared.operation.Operation.TheVariants.{Concatenate, And, Or, Index}
use Rattle.pli_operation.specs.declared.operation.Operation.TheVariants.{Rest, Substring, Within}
use Rattle.pli_operation.specs.declared.operation.Relation.{Relation}
use Rattle.pli_operation.specs.declared.operation.Relation.TheVariants.{Equal, Unequal, Less, AtMost}
use Rattle.pli_operation.specs.declared.operation.Relation.TheVariants.{Greater, AtLeast}

-- how many operands it has
abbrev pub arity : Operation → ℕ
arity Negate = 1
arity Absolute = 1
arity Sign = 1
arity Not = 1
arity LengthOf = 1
arity FromBits = 1
arity (ToCharacters width) = 1
arity Add = 2
arity Subtract = 2
arity Multiply = 2
arity Modulo = 2
arity Greatest = 2
arity Least = 2
arity (Divide precision) = 2
arity (Compare relation) = 2
arity Concatenate = 2
arity And = 2
arity Or = 2
arity Index = 2
arity Rest = 2
arity Substring = 3
arity Within = 3

-- what an operation comes to: a value; a condition; a string over the limit, or a part that a string has not;
-- or nothing, where operands are not of its kinds
pub data Calculation : Type 0 where
  Calculates : (value : Value) → Calculation
  RaisesCondition : (condition : Raised) → Calculation
  OutOfString : Calculation
  Misfits : Calculation

-- how many binary digits the number of a value has at most, whatever precision is asked for (own)
abbrev pub widest : ℕ
widest = 63

-- a number, or the condition that is raised
abbrev pub as_number : Result ℤ Raised → Calculation
as_number (Ok x) = Calculates (Number x)
as_number (Err condition) = RaisesCondition condition

-- characters, where there are some; else a string out of range
abbrev pub as_characters : Option (List ℕ) → Calculation
as_characters None = OutOfString
as_characters (Some text) = Calculates (Characters text)

-- bits, where there are some; else a string out of range
abbrev pub as_bits : Option (List Bool) → Calculation
as_bits None = OutOfString
as_bits (Some bits) = Calculates (Bits bits)

-- a bit: the answer of a comparison
abbrev pub as_bit : Bool → Calculation
as_bit b = Calculates (Bits (b ∷ []))

-- two strings, or numbers, stand so
abbrev pub stands : Relation → Ordering → Bool
stands Equal orders.Equal = true
stands Unequal orders.Less = true
stands Unequal orders.Greater = true
stands Less orders.Less = true
stands AtMost orders.Less = true
stands AtMost orders.Equal = true
stands Greater orders.Greater = true
stands AtLeast orders.Greater = true
stands AtLeast orders.Equal = true
stands relation order = false

-- two pointers, or two offsets
abbrev pub are_comparable : (left right : Locator) → Bool
are_comparable (locators.Offset k) (locators.Offset l) = true
are_comparable (locators.Offset k) right = false
are_comparable left (locators.Offset l) = false
are_comparable left right = true

-- what `=` or `^=` of two locators comes to; no other comparison is theirs
abbrev pub compared : Relation → (left right : Locator) → Calculation
compared Equal left right = if are_comparable left right then as_bit (same_locator left right) else Misfits
compared Unequal left right =
    if are_comparable left right then as_bit (not (same_locator left right)) else Misfits
compared relation left right = Misfits

-- a number has not passed a limit: it is at most the limit where the step is not negative, else at least
abbrev pub is_within_limit : (x limit step : ℤ) → Bool
is_within_limit x limit step = if int_le (pos 0) step then int_le x limit else int_le limit x

-- a number at the right of so many columns, where they hold it
abbrev pub in_columns : (width : ℕ) → ℤ → Calculation
in_columns width x =
    if nat_le (length (signed_decimal x)) width then Calculates (Characters (number_characters width x))
    else Misfits

-- a value fitted to a description: a number held against its precision, a string cut or extended on the right;
-- bits have the limit of a string
abbrev pub fitted_to : Description → Value → Calculation
fitted_to (FixedBinary precision) (Number x) = as_number (within precision x)
fitted_to (Character n) (Characters text) = Calculates (Characters (fitted 32 n text))
fitted_to (Varying n) (Characters text) = Calculates (Characters (take n text))
fitted_to (Bit n) (Bits bits) =
    if nat_le n 32767 then Calculates (Bits (fitted false n bits)) else OutOfString
fitted_to description v = Misfits

-- a string fitted to the description of a string; what is no string's description takes none
abbrev pub string_fitted_to : Description → Value → Calculation
string_fitted_to (Character n) v = fitted_to (Character n) v
string_fitted_to (Varying n) v = fitted_to (Varying n) v
string_fitted_to (Bit n) v = fitted_to (Bit n) v
string_fitted_to description v = Misfits

-- operations on one value
abbrev pub calculated_from : Operation → Value → Calculation
calculated_from Negate (Number x) = as_number (within widest (neg_ℤ x))
calculated_from Absolute (Number x) = as_number (within widest (pos (unsigned_abs x)))
calculated_from Sign (Number x) = Calculates (Number (sign_of x))
calculated_from Not (Bits s) = Calculates (Bits (negation s))
calculated_from LengthOf (Characters s) = Calculates (Number (pos (length s)))
calculated_from LengthOf (Bits s) = Calculates (Number (pos (length s)))
calculated_from FromBits (Bits s) = Calculates (Characters (bit_characters s))
calculated_from (ToCharacters width) (Number x) = in_columns width x
calculated_from operation v = Misfits

-- on two; numbers have at most so many binary digits
abbrev pub calculated_with : (greatest : ℕ) → Operation → (left right : Value) → Calculation
calculated_with n Add (Number x) (Number y) = as_number (within n (x +ℤ y))
calculated_with n Subtract (Number x) (Number y) = as_number (within n (x -ℤ y))
calculated_with n Multiply (Number x) (Number y) = as_number (within n (x *ℤ y))
calculated_with n (Divide precision) (Number x) (Number y) = as_number (quotient (min precision widest) x y)
calculated_with n Modulo (Number x) (Number y) = as_number (remainder x y)
calculated_with n Greatest (Number x) (Number y) = Calculates (Number (greatest_of x y))
calculated_with n Least (Number x) (Number y) = Calculates (Number (least_of x y))
calculated_with n (Compare relation) (Number x) (Number y) = as_bit (stands relation (int_cmp x y))
calculated_with n (Compare relation) (Characters s) (Characters t) =
    as_bit (stands relation (order_of 32 nat_cmp s t))
calculated_with n (Compare relation) (Bits s) (Bits t) =
    as_bit (stands relation (order_of false bool_cmp s t))
calculated_with n (Compare relation) (Located l) (Located r) = compared relation l r
calculated_with n Concatenate (Characters s) (Characters t) = as_characters (concatenation s t)
calculated_with n Concatenate (Bits s) (Bits t) = as_bits (concatenation s t)
calculated_with n And (Bits s) (Bits t) = Calculates (Bits (conjunction s t))
calculated_with n Or (Bits s) (Bits t) = Calculates (Bits (disjunction s t))
calculated_with n Index (Characters s) (Characters t) = Calculates (Number (pos (index_of s t)))
calculated_with n Index (Bits s) (Bits t) =
    Calculates (Number (pos (index_of (bit_characters s) (bit_characters t))))
calculated_with n Rest (Characters s) (Number i) = as_characters (substring_from s i)
calculated_with n Rest (Bits s) (Number i) = as_bits (substring_from s i)
calculated_with n operation v w = Misfits

-- and on three
abbrev pub calculated_by : Operation → (first second third : Value) → Calculation
calculated_by Substring (Characters s) (Number i) (Number k) = as_characters (substring s i k)
calculated_by Substring (Bits s) (Number i) (Number k) = as_bits (substring s i k)
calculated_by Within (Number x) (Number limit) (Number step) = as_bit (is_within_limit x limit step)
calculated_by operation u v w = Misfits

-- an operation on its operands, from left to right
unfoldable pub calculated : (greatest : ℕ) → Operation → List Value → Calculation
calculated n operation (v ∷ []) = calculated_from operation v
calculated n operation (v ∷ w ∷ []) = calculated_with n operation v w
calculated n operation (u ∷ v ∷ w ∷ []) = calculated_by operation u v w
calculated n operation other = Misfits
