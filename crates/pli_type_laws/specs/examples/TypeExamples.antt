-- Worked examples of types: precisions of numbers, kinds of strings, and in how many columns numbers are
-- printed.
use Rattle.std.specs.Prelude.{◌≡◌, true, false, pos, Some, [], ◌∷◌, codes}
use Rattle.pli_base.specs.Syntax.{Referred, Parenthesized, Prefix, Infix, Named, Alone, Joined, Absent}
use Rattle.pli_base.specs.Syntax.{Given, Empty, Listed}
use Rattle.pli_base.specs.declared.syntax.ConstantValue.TheVariants.{Decimal, Binary, Characters, Bits}
use Rattle.pli_base.specs.declared.syntax.InfixOperator.TheVariants as infixes
use Rattle.pli_base.specs.declared.syntax.Joining.TheVariants.{Member}
use Rattle.pli_base.specs.declared.syntax.PrefixOperator.TheVariants as prefixes
use Rattle.pli_type_rules.specs.ExpressionTypes.{literal_value}
use Rattle.pli_type_rules.specs.declared.expression_type.ExpressionType.TheVariants as types
use Rattle.pli_type_laws.specs.examples.ExampleTrees.{type_given, width_printed, called, named, text}
use Rattle.pli_type_laws.specs.examples.ExampleTrees.{of_bits, decimal, binary}
use Rattle.pli_type_laws.specs.examples.ExampleTrees.{x, n, i, v, a, s_b, abs, greatest, least, modulo}
use Rattle.pli_type_laws.specs.examples.ExampleTrees.{divide}
use Rattle.pli_type_laws.specs.examples.ExampleTrees.{sign}
use Rattle.pli_type_laws.specs.examples.ExampleTrees.{length_of, index, low_bound, substring}
use Rattle.pli_value.specs.Value as values
use Rattle.pli_value.specs.Value.{Number}

-- A decimal constant, with prefix signs and parentheses, has the digits that are written; a binary one is
-- FIXED BINARY
abbrev pub ConstantsAreDecimal : Type 0
ConstantsAreDecimal =
    -- 5
    (type_given [] (decimal 5 1 0) ≡ Some (types.FixedDecimal 1))
    -- 007
    × (type_given [] (decimal 7 3 0) ≡ Some (types.FixedDecimal 3))
    -- -(12)
    × (type_given [] (Prefix prefixes.Minus 0 (Parenthesized 1 (decimal 12 2 2))) ≡ Some (types.FixedDecimal
    2))
    -- +5
    × (type_given [] (Prefix prefixes.Plus 0 (decimal 5 1 1)) ≡ Some (types.FixedDecimal 1))
    -- -(+(5))
    × (type_given [] (Prefix prefixes.Minus 0 (Parenthesized 1 (Prefix prefixes.Plus 2 (Parenthesized 3
    (decimal 5 1 4))))) ≡ Some (types.FixedDecimal 1))
    -- 101B
    × (type_given [] (binary 5 3 0) ≡ Some (types.FixedBinary 3))
    -- -101B
    × (type_given [] (Prefix prefixes.Minus 0 (binary 5 3 1)) ≡ Some (types.FixedBinary 3))

-- The value of a constant of a text is what is written; no text has one for which its type has no room
abbrev pub ConstantsHaveRoom : Type 0
ConstantsHaveRoom =
    -- 0012
    (literal_value 63 (Decimal 12 4) ≡ Number (pos 12))
    -- 9223372036854775807
    × (literal_value 63 (Decimal 9223372036854775807 19) ≡ Number (pos 9223372036854775807))
    -- 101B
    × (literal_value 63 (Binary 5 3) ≡ Number (pos 5))
    -- 'AB'
    × (literal_value 63 (Characters (codes "AB")) ≡ values.Characters (codes "AB"))
    -- '10'B
    × (literal_value 63 (Bits (true ∷ false ∷ [])) ≡ values.Bits (true ∷ false ∷ []))
    -- 99999999999999999999
    × (literal_value 63 (Decimal 99999999999999999999 20) ≡ Number (pos 9223372036854775807))

-- A constant of p digits is an operand of 1 + 3.32p binary digits; a sum has one digit more than the longer
-- operand, a product one more than both, and none more than 63; a sign keeps the precision
abbrev pub PrecisionsOfOperations : Type 0
PrecisionsOfOperations =
    -- 1 + 1
    (type_given [] (Infix infixes.Add 1 (decimal 1 1 0) (decimal 1 1 2)) ≡ Some (types.FixedBinary 6))
    -- 1 * 1
    × (type_given [] (Infix infixes.Multiply 1 (decimal 1 1 0) (decimal 1 1 2)) ≡ Some (types.FixedBinary
    11))
    -- 5 + 5
    × (type_given [] (Infix infixes.Add 1 (decimal 5 1 0) (decimal 5 1 2)) ≡ Some (types.FixedBinary 6))
    -- N + N
    × (type_given ((0, n) ∷ (2, n) ∷ []) (Infix infixes.Add 1 (named (codes "N") 0) (named (codes "N") 2)) ≡
    Some (types.FixedBinary 16))
    -- N - 1
    × (type_given ((0, n) ∷ []) (Infix infixes.Subtract 1 (named (codes "N") 0) (decimal 1 1 2)) ≡ Some
    (types.FixedBinary 16))
    -- N * N
    × (type_given ((0, n) ∷ (2, n) ∷ []) (Infix infixes.Multiply 1 (named (codes "N") 0) (named (codes "N")
    2)) ≡ Some (types.FixedBinary 31))
    -- N * 1
    × (type_given ((0, n) ∷ []) (Infix infixes.Multiply 1 (named (codes "N") 0) (decimal 1 1 2)) ≡ Some
    (types.FixedBinary 21))
    -- I + I
    × (type_given ((0, i) ∷ (2, i) ∷ []) (Infix infixes.Add 1 (named (codes "I") 0) (named (codes "I") 2)) ≡
    Some (types.FixedBinary 32))
    -- I * I
    × (type_given ((0, i) ∷ (2, i) ∷ []) (Infix infixes.Multiply 1 (named (codes "I") 0) (named (codes "I")
    2)) ≡ Some (types.FixedBinary 63))
    -- I * N
    × (type_given ((0, i) ∷ (2, n) ∷ []) (Infix infixes.Multiply 1 (named (codes "I") 0) (named (codes "N")
    2)) ≡ Some (types.FixedBinary 47))
    -- -N
    × (type_given ((1, n) ∷ []) (Prefix prefixes.Minus 0 (named (codes "N") 1)) ≡ Some (types.FixedBinary
    15))
    -- 2147483647 + 1
    × (type_given [] (Infix infixes.Add 1 (decimal 2147483647 10 0) (decimal 1 1 2)) ≡ Some
    (types.FixedBinary 36))
    -- 9223372036854775807 + 1
    × (type_given [] (Infix infixes.Add 1 (decimal 9223372036854775807 19 0) (decimal 1 1 2)) ≡ Some
    (types.FixedBinary 63))
    -- 333 + 1B
    × (type_given [] (Infix infixes.Add 1 (decimal 333 3 0) (binary 1 1 2)) ≡ Some (types.FixedBinary 12))

-- ABS has that of its operand, MAX and MIN the greater one, MOD that of its second operand, DIVIDE the one
-- that is written, the others 15
abbrev pub PrecisionsOfFunctions : Type 0
PrecisionsOfFunctions =
    -- ABS(5)
    (type_given ((0, abs) ∷ []) (Referred (Named (called (codes "ABS") 0) (Given (Listed (decimal 5 1 2)
    Empty)) Alone)) ≡ Some (types.FixedBinary 5))
    -- ABS(-12)
    × (type_given ((0, abs) ∷ []) (Referred (Named (called (codes "ABS") 0) (Given (Listed (Prefix
    prefixes.Minus 2 (decimal 12 2 3)) Empty)) Alone)) ≡ Some (types.FixedBinary 8))
    -- MAX(1, 333)
    × (type_given ((0, greatest) ∷ []) (Referred (Named (called (codes "MAX") 0) (Given (Listed (decimal 1 1
    2) (Listed (decimal 333 3 4) Empty))) Alone)) ≡ Some (types.FixedBinary 11))
    -- MIN(I, N)
    × (type_given ((0, least) ∷ (2, i) ∷ (4, n) ∷ []) (Referred (Named (called (codes "MIN") 0) (Given
    (Listed (named (codes "I") 2) (Listed (named (codes "N") 4) Empty))) Alone)) ≡ Some (types.FixedBinary
    31))
    -- MOD(I, 333)
    × (type_given ((0, modulo) ∷ (2, i) ∷ []) (Referred (Named (called (codes "MOD") 0) (Given (Listed
    (named (codes "I") 2) (Listed (decimal 333 3 4) Empty))) Alone)) ≡ Some (types.FixedBinary 11))
    -- MOD(333, 1)
    × (type_given ((0, modulo) ∷ []) (Referred (Named (called (codes "MOD") 0) (Given (Listed (decimal 333 3
    2) (Listed (decimal 1 1 4) Empty))) Alone)) ≡ Some (types.FixedBinary 5))
    -- DIVIDE(1, 1, 3)
    × (type_given ((0, divide) ∷ []) (Referred (Named (called (codes "DIVIDE") 0) (Given (Listed (decimal 1
    1 2) (Listed (decimal 1 1 4) (Listed (decimal 3 1 6) Empty)))) Alone)) ≡ Some (types.FixedBinary 3))
    -- SIGN(I)
    × (type_given ((0, sign) ∷ (2, i) ∷ []) (Referred (Named (called (codes "SIGN") 0) (Given (Listed (named
    (codes "I") 2) Empty)) Alone)) ≡ Some (types.FixedBinary 15))
    -- LENGTH('A')
    × (type_given ((0, length_of) ∷ []) (Referred (Named (called (codes "LENGTH") 0) (Given (Listed (text
    (codes "A") 2) Empty)) Alone)) ≡ Some (types.FixedBinary 15))
    -- INDEX('AB', 'B')
    × (type_given ((0, index) ∷ []) (Referred (Named (called (codes "INDEX") 0) (Given (Listed (text (codes
    "AB") 2) (Listed (text (codes "B") 4) Empty))) Alone)) ≡ Some (types.FixedBinary 15))
    -- LBOUND(A, 1)
    × (type_given ((0, low_bound) ∷ (2, a) ∷ []) (Referred (Named (called (codes "LBOUND") 0) (Given (Listed
    (named (codes "A") 2) (Listed (decimal 1 1 4) Empty))) Alone)) ≡ Some (types.FixedBinary 15))

-- Bits beside characters are read as characters; a comparison gives bits; part of a string is of its kind
abbrev pub KindsOfStrings : Type 0
KindsOfStrings =
    -- X || 'A'
    (type_given ((0, x) ∷ []) (Infix infixes.Concatenate 1 (named (codes "X") 0) (text (codes "A") 2)) ≡
    Some (types.Characters))
    -- X || X
    × (type_given ((0, x) ∷ (2, x) ∷ []) (Infix infixes.Concatenate 1 (named (codes "X") 0) (named (codes
    "X") 2)) ≡ Some (types.Bits))
    -- V || V
    × (type_given ((0, v) ∷ (2, v) ∷ []) (Infix infixes.Concatenate 1 (named (codes "V") 0) (named (codes
    "V") 2)) ≡ Some (types.Characters))
    -- X = 'A'
    × (type_given ((0, x) ∷ []) (Infix infixes.Equal 1 (named (codes "X") 0) (text (codes "A") 2)) ≡ Some
    (types.Bits))
    -- N < 5
    × (type_given ((0, n) ∷ []) (Infix infixes.Less 1 (named (codes "N") 0) (decimal 5 1 2)) ≡ Some
    (types.Bits))
    -- ^X
    × (type_given ((1, x) ∷ []) (Prefix prefixes.Not 0 (named (codes "X") 1)) ≡ Some (types.Bits))
    -- X & '1'B
    × (type_given ((0, x) ∷ []) (Infix infixes.And 1 (named (codes "X") 0) (of_bits (codes "1") 2)) ≡ Some
    (types.Bits))
    -- SUBSTR('ABC', 1)
    × (type_given ((0, substring) ∷ []) (Referred (Named (called (codes "SUBSTR") 0) (Given (Listed (text
    (codes "ABC") 2) (Listed (decimal 1 1 4) Empty))) Alone)) ≡ Some (types.Characters))
    -- SUBSTR('101'B, 1, 2)
    × (type_given ((0, substring) ∷ []) (Referred (Named (called (codes "SUBSTR") 0) (Given (Listed (of_bits
    (codes "101") 2) (Listed (decimal 1 1 4) (Listed (decimal 2 1 6) Empty)))) Alone)) ≡ Some (types.Bits))
    -- V
    × (type_given ((0, v) ∷ []) (named (codes "V") 0) ≡ Some (types.Characters))
    -- S.B(1, 4, 1)
    × (type_given ((0, s_b) ∷ []) (Referred (Named (called (codes "S") 0) Absent (Joined Member (called
    (codes "B") 2) (Given (Listed (decimal 1 1 4) (Listed (decimal 4 1 6) (Listed (decimal 1 1 8) Empty))))
    Alone))) ≡ Some (types.Characters))

-- Decimal digits and three more
abbrev pub ColumnsOfNumbers : Type 0
ColumnsOfNumbers =
    -- 007
    (width_printed [] (decimal 7 3 0) ≡ Some 6)
    -- 1 + 1
    × (width_printed [] (Infix infixes.Add 1 (decimal 1 1 0) (decimal 1 1 2)) ≡ Some 6)
    -- 1 * 1
    × (width_printed [] (Infix infixes.Multiply 1 (decimal 1 1 0) (decimal 1 1 2)) ≡ Some 8)
    -- DIVIDE(1, 1, 3)
    × (width_printed ((0, divide) ∷ []) (Referred (Named (called (codes "DIVIDE") 0) (Given (Listed (decimal
    1 1 2) (Listed (decimal 1 1 4) (Listed (decimal 3 1 6) Empty)))) Alone)) ≡ Some 5)
    -- MOD(1, 333)
    × (width_printed ((0, modulo) ∷ []) (Referred (Named (called (codes "MOD") 0) (Given (Listed (decimal 1
    1 2) (Listed (decimal 333 3 4) Empty))) Alone)) ≡ Some 8)
    -- MAX(1, 333)
    × (width_printed ((0, greatest) ∷ []) (Referred (Named (called (codes "MAX") 0) (Given (Listed (decimal
    1 1 2) (Listed (decimal 333 3 4) Empty))) Alone)) ≡ Some 8)
    -- 101B
    × (width_printed [] (binary 5 3 0) ≡ Some 5)
    -- 5
    × (width_printed [] (decimal 5 1 0) ≡ Some 4)
    -- -(12)
    × (width_printed [] (Prefix prefixes.Minus 0 (Parenthesized 1 (decimal 12 2 2))) ≡ Some 5)
    -- ABS(5)
    × (width_printed ((0, abs) ∷ []) (Referred (Named (called (codes "ABS") 0) (Given (Listed (decimal 5 1
    2) Empty)) Alone)) ≡ Some 6)
    -- N
    × (width_printed ((0, n) ∷ []) (named (codes "N") 0) ≡ Some 9)
    -- I
    × (width_printed ((0, i) ∷ []) (named (codes "I") 0) ≡ Some 14)
