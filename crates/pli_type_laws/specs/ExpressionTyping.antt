-- What expressions that the type checker gives hold (own): values of their types.
use Rattle.std.specs.Prelude.{◌≡◌, ℕ, ◌≤◌, ◌*◌, Option, Some}
use Rattle.pli_map.specs.Description.{Description}
use Rattle.pli_type_rules.specs.ExpressionTypes.{TypedValue, columns, binary_digits, converted, printed}
use Rattle.pli_type_rules.specs.declared.beginning.Beginning.{Beginning}
use Rattle.pli_type_rules.specs.declared.expression_type.ExpressionType.{ExpressionType}
use Rattle.pli_type_rules.specs.declared.expression_type.ExpressionType.TheVariants as types
use Rattle.pli_type_laws.specs.NameFacts.{IsAreaNamed}
use Rattle.pli_type_tree.specs.TypedTree.{TypedExpression}
use Rattle.pli_type_tree.specs.ValueTypes.{StringKind, Numbers, Strings, Pointers, Offsets, OfCharacters}
use Rattle.pli_type_tree.specs.ValueTypes.{OfBits}
use Rattle.pli_type_tree.specs.ValueTypes.{HaveColumns, longest}
use Rattle.pli_type_tree.specs.WellTyped.{TypingContext, IsTyped, IsValueFor}

-- Numbers of so many binary digits stand for those of a precision: no more than it says, or one more for each
-- 15 of them, since a bound may be -32,768; and none has more than 63 digits.
abbrev pub AreNear : (digits precision : ℕ) → Type 0
AreNear p q = (15 * p ≤ 16 * q) × (p ≤ 63) × (q ≤ 63)

-- an expression gives numbers of a precision
abbrev pub IsNumber : TypingContext → TypedExpression → (precision : ℕ) → Type 0
IsNumber s e precision = (p : ℕ) × IsTyped 63 s e (Numbers p) × AreNear p precision

-- an expression gives strings of a kind, none longer than one that can be declared
abbrev pub IsShort : TypingContext → StringKind → TypedExpression → Type 0
IsShort s kind e = (least : ℕ) × (most : ℕ) × IsTyped 63 s e (Strings kind least most) × (most ≤ longest)

-- an expression gives values of its type; a constant has room in the columns of its digits; NULL is a
-- pointer; the area is there that the type of an offset names; an area gives no values, so nothing is said of
-- its expression
abbrev pub HasType : TypingContext → TypedExpression → ExpressionType → Type 0
HasType s e (types.FixedDecimal digits) =
    (p : ℕ) × IsTyped 63 s e (Numbers p) × AreNear p (binary_digits 63 digits)
    × HaveColumns (columns digits) p
HasType s e (types.FixedBinary precision) = IsNumber s e precision
HasType s e types.Characters = IsShort s OfCharacters e
HasType s e types.Bits = IsShort s OfBits e
HasType s e types.Pointer = IsTyped 63 s e Pointers
HasType s e types.Null = IsTyped 63 s e Pointers
HasType s e (types.Offset area) = IsTyped 63 s e Offsets × IsAreaNamed 63 s area
HasType s e types.Area = Unit {0}

-- A value of its type that is converted to the type of a variable can be assigned to it, where the area is
-- there that the variable's declaration names.
abbrev pub ConvertedIsHeld : Type 0
ConvertedIsHeld =
    (s : TypingContext) (area : Option Beginning) (d : Description) (v : TypedValue) (e : TypedExpression)
    → IsAreaNamed 63 s area → HasType s v.expression v.kind → converted 63 area d v ≡ Some e
    → IsValueFor 63 s d e

-- A value of its type that is printed becomes a string.
abbrev pub PrintedIsString : Type 0
PrintedIsString =
    (s : TypingContext) (v : TypedValue) (e : TypedExpression) → HasType s v.expression v.kind
    → printed v ≡ Some e → (kind : StringKind) × IsShort s kind e
