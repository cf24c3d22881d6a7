-- Types of the values that expressions give, and what operations take and give of them (own).
use Rattle.std.specs.Prelude.{◌≡◌, ℕ, suc, ◌≤◌, ◌<◌, ◌^◌, ◌+◌, min, max, Bool, IsTrue, ℤ, unsigned_abs}
use Rattle.std.specs.Prelude.{Option, Some, None, List, []}
use Rattle.std.specs.Prelude.{◌∷◌, ◌⊎◌, length}
use Rattle.pli_map.specs.Description.{Description, FixedBinary, Character, Varying, Bit, Pointer, Offset}
use Rattle.pli_map.specs.ParameterTypes.{ParameterType, Stated, AnyString}
use Rattle.pli_map.specs.Values.{holds}
use Rattle.pli_map.specs.declared.parameter.StringForm.{StringForm}
use Rattle.pli_map.specs.declared.parameter.StringForm.TheVariants as forms
use Rattle.pli_operation.specs.declared.operation.Operation.{Operation}
use Rattle.pli_operation.specs.declared.operation.Operation.TheVariants.{Negate, Absolute, Sign, Not}
use Rattle.pli_operation.specs.declared.operation.Operation.TheVariants.{LengthOf, FromBits, ToCharacters}
use Rattle.pli_operation.specs.declared.operation.Operation.TheVariants.{Add, Subtract, Multiply, Modulo}
use Rattle.pli_operation.specs.declared.operation.Operation.TheVariants.{Greatest, Least, Divide, Compare}
use Rattle.pli_operation.specs.declared.operation.Operation.TheVariants.{Concatenate, And, Or, Index, Rest}
use Rattle.pli_operation.specs.declared.operation.Operation.TheVariants.{Substring, Within}
use Rattle.pli_operation.specs.declared.operation.Relation.{Relation}
use Rattle.pli_operation.specs.declared.operation.Relation.TheVariants.{Equal, Unequal}
pub use Rattle.pli_type_tree.specs.Extents.{longest}
use Rattle.pli_type_tree.specs.TypedTree.{TypedOperation, Fit, Operate}
use Rattle.pli_value.specs.Value.{Value, Number, Characters, Bits, Located}
use Rattle.pli_value.specs.declared.locator.Locator.{Locator}

-- what a string is made of
pub data StringKind : Type 0 where
  OfCharacters OfBits : StringKind

-- numbers of at most so many binary digits; strings of at least and at most so many elements; pointers;
-- offsets
pub data ValueType : Type 0 where
  Numbers : (digits : ℕ) → ValueType
  Strings : (kind : StringKind) (least most : ℕ) → ValueType
  Pointers : ValueType
  Offsets : ValueType

-- what a variable of a description holds; an aggregate or an area holds no value
abbrev pub type_held : Description → Option ValueType
type_held (FixedBinary precision) = Some (Numbers precision)
type_held (Character n) = Some (Strings OfCharacters n n)
type_held (Varying n) = Some (Strings OfCharacters 0 n)
type_held (Bit n) = Some (Strings OfBits n n)
type_held Pointer = Some Pointers
type_held Offset = Some Offsets
type_held d = None

-- what strings of a form are made of
abbrev pub kind_of_form : StringForm → StringKind
kind_of_form forms.Character = OfCharacters
kind_of_form forms.Varying = OfCharacters
kind_of_form forms.Bit = OfBits

-- what a variable of a type holds, whatever the lengths are that are the argument's
abbrev pub type_kept : ParameterType → Option ValueType
type_kept (Stated d) = type_held d
type_kept (AnyString form) = Some (Strings (kind_of_form form) 0 longest)
type_kept type = None

-- a locator is a pointer that a POINTER may hold, null or not
abbrev pub IsPointer : Locator → Type 0
IsPointer l = IsTrue (holds Pointer (Located l))

-- a locator is an offset that an OFFSET may hold, null or not
abbrev pub IsOffset : Locator → Type 0
IsOffset l = IsTrue (holds Offset (Located l))

-- a value is of a type
abbrev pub IsOf : ValueType → Value → Type 0
IsOf (Numbers p) v = (x : ℤ) × (v ≡ Number x) × (unsigned_abs x < 2 ^ p)
IsOf (Strings OfCharacters a b) v = (s : List ℕ) × (v ≡ Characters s) × (a ≤ length s) × (length s ≤ b)
IsOf (Strings OfBits a b) v = (s : List Bool) × (v ≡ Bits s) × (a ≤ length s) × (length s ≤ b)
IsOf Pointers v = (l : Locator) × (v ≡ Located l) × IsPointer l
IsOf Offsets v = (l : Locator) × (v ≡ Located l) × IsOffset l

-- values are of types, one for one
abbrev pub AreOf : List ValueType → List Value → Type 0
AreOf [] [] = Unit {0}
AreOf (t ∷ ts) (v ∷ vs) = IsOf t v × AreOf ts vs
AreOf ts vs = ⊥

-- each value of the first type is one of the second
abbrev pub IsWithin : (narrow wide : ValueType) → Type 0
IsWithin (Numbers p) (Numbers q) = p ≤ q
IsWithin (Strings OfCharacters a b) (Strings OfCharacters c d) = (c ≤ a) × (b ≤ d)
IsWithin (Strings OfBits a b) (Strings OfBits c d) = (c ≤ a) × (b ≤ d)
IsWithin Pointers Pointers = Unit {0}
IsWithin Offsets Offsets = Unit {0}
IsWithin t u = ⊥

-- a variable of the description may hold each value of the type
abbrev pub IsHeldBy : Description → ValueType → Type 0
IsHeldBy d t = (wide : ValueType) × (type_held d ≡ Some wide) × IsWithin t wide

-- each value of the type can be fitted to the description: both are of numbers, or of the same kind of
-- strings
abbrev pub IsFitted : Description → ValueType → Type 0
IsFitted (FixedBinary precision) (Numbers p) = Unit {0}
IsFitted (Character n) (Strings OfCharacters a b) = Unit {0}
IsFitted (Varying n) (Strings OfCharacters a b) = Unit {0}
IsFitted (Bit n) (Strings OfBits a b) = Unit {0}
IsFitted d t = ⊥

-- the precision of a length
abbrev pub length_precision : ℕ
length_precision = 15

-- the precision of a bound of an array
abbrev pub bound_precision : ℕ
bound_precision = 16

-- the precision of a number of generations
abbrev pub count_precision : ℕ
count_precision = 15

-- numbers of so many binary digits have room in so many columns, with a sign
abbrev pub HaveColumns : (width digits : ℕ) → Type 0
HaveColumns width p = (p ≤ 63) × (n : ℕ) × (width ≡ suc n) × (2 ^ p ≤ 10 ^ n)

-- the operands are one number, of a precision that is such
abbrev pub OnNumber : List ValueType → (ℕ → Type 0) → Type 0
OnNumber ts Of = (p : ℕ) × (ts ≡ Numbers p ∷ []) × Of p

-- they are two numbers, of precisions that are such
abbrev pub OnNumbers : List ValueType → (ℕ → ℕ → Type 0) → Type 0
OnNumbers ts Of = (p : ℕ) × (q : ℕ) × (ts ≡ Numbers p ∷ Numbers q ∷ []) × Of p q

-- they are three numbers
abbrev pub OnThreeNumbers : List ValueType → Type 0
OnThreeNumbers ts = (p : ℕ) × (q : ℕ) × (r : ℕ) × (ts ≡ Numbers p ∷ Numbers q ∷ Numbers r ∷ [])

-- they are one string, whose kind and lengths are such
abbrev pub OnString : List ValueType → (StringKind → ℕ → ℕ → Type 0) → Type 0
OnString ts Of = (k : StringKind) × (a : ℕ) × (b : ℕ) × (ts ≡ Strings k a b ∷ []) × Of k a b

-- they are two strings of one kind, whose kind and greatest lengths are such
abbrev pub OnStrings : List ValueType → (StringKind → ℕ → ℕ → Type 0) → Type 0
OnStrings ts Of =
    (k : StringKind) × (a : ℕ) × (b : ℕ) × (c : ℕ) × (d : ℕ)
    × (ts ≡ Strings k a b ∷ Strings k c d ∷ []) × Of k b d

-- they are two locators of one kind
abbrev pub OnLocators : List ValueType → Type 0
OnLocators ts = (ts ≡ Pointers ∷ Pointers ∷ []) ⊎ (ts ≡ Offsets ∷ Offsets ∷ [])

-- a relation says whether values are equal
abbrev pub IsEquality : Relation → Type 0
IsEquality Equal = Unit {0}
IsEquality Unequal = Unit {0}
IsEquality relation = ⊥

-- an operation without a description takes operands of these types and gives a value of this one; no number
-- has more than so many binary digits
abbrev pub Computes : (greatest : ℕ) → Operation → List ValueType → ValueType → Type 0
Computes n Negate ts t = OnNumber ts (λ p. t ≡ Numbers p)
Computes n Absolute ts t = OnNumber ts (λ p. t ≡ Numbers p)
Computes n Sign ts t = OnNumber ts (λ p. t ≡ Numbers 1)
Computes n Not ts t = OnString ts (λ k a b. (k ≡ OfBits) × (t ≡ Strings OfBits a b))
Computes n LengthOf ts t = OnString ts (λ k a b. (b ≤ longest) × (t ≡ Numbers length_precision))
Computes n FromBits ts t = OnString ts (λ k a b. (k ≡ OfBits) × (t ≡ Strings OfCharacters a b))
Computes n (ToCharacters width) ts t =
    OnNumber ts (λ p. HaveColumns width p × (t ≡ Strings OfCharacters width width))
Computes n Add ts t = OnNumbers ts (λ p q. t ≡ Numbers (min n (max p q + 1)))
Computes n Subtract ts t = OnNumbers ts (λ p q. t ≡ Numbers (min n (max p q + 1)))
Computes n Multiply ts t = OnNumbers ts (λ p q. t ≡ Numbers (min n (p + q + 1)))
Computes n Modulo ts t = OnNumbers ts (λ p q. t ≡ Numbers q)
Computes n Greatest ts t = OnNumbers ts (λ p q. t ≡ Numbers (max p q))
Computes n Least ts t = OnNumbers ts (λ p q. t ≡ Numbers (max p q))
Computes n (Divide precision) ts t = OnNumbers ts (λ p q. t ≡ Numbers precision)
Computes n (Compare relation) ts t =
    (OnNumbers ts (λ p q. Unit {0}) ⊎ OnStrings ts (λ k b d. Unit {0})
    ⊎ (IsEquality relation × OnLocators ts)) × (t ≡ Strings OfBits 1 1)
Computes n Concatenate ts t = OnStrings ts (λ k b d. t ≡ Strings k 0 longest)
Computes n And ts t = OnStrings ts (λ k b d. (k ≡ OfBits) × (t ≡ Strings OfBits 0 (max b d)))
Computes n Or ts t = OnStrings ts (λ k b d. (k ≡ OfBits) × (t ≡ Strings OfBits 0 (max b d)))
Computes n Index ts t = OnStrings ts (λ k b d. (b ≤ longest) × (t ≡ Numbers length_precision))
Computes n Rest ts t =
    (k : StringKind) × (a : ℕ) × (b : ℕ) × (p : ℕ) × (ts ≡ Strings k a b ∷ Numbers p ∷ [])
    × (t ≡ Strings k 0 b)
Computes n Substring ts t =
    (k : StringKind) × (a : ℕ) × (b : ℕ) × (p : ℕ) × (q : ℕ)
    × (ts ≡ Strings k a b ∷ Numbers p ∷ Numbers q ∷ []) × (t ≡ Strings k 0 b)
Computes n Within ts t = OnThreeNumbers ts × (t ≡ Strings OfBits 1 1)

-- an operation of an expression does
abbrev pub Operates : (greatest : ℕ) → TypedOperation → List ValueType → ValueType → Type 0
Operates n (Fit d) ts t = (u : ValueType) × (ts ≡ u ∷ []) × IsFitted d u × (type_held d ≡ Some t)
Operates n (Operate operation) ts t = Computes n operation ts t
