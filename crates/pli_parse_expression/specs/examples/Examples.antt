-- Worked examples: what is read at the front of tokens, and the faults.
use Rattle.std.specs.Prelude.{◌≡◌, ℕ, [], ◌∷◌, codes}
use Rattle.pli_base.specs.Name.{Name}
use Rattle.pli_base.specs.Syntax.{Expression, Referred, Constant, Parenthesized, Prefix, Infix, Named, Alone}
use Rattle.pli_base.specs.Syntax.{Joined, Absent, Given, Empty, Listed}
use Rattle.pli_base.specs.declared.code.Code.TheVariants as faults
use Rattle.pli_base.specs.declared.syntax.ConstantValue.TheVariants as constants
use Rattle.pli_base.specs.declared.syntax.PrefixOperator.TheVariants as prefixes
use Rattle.pli_base.specs.declared.syntax.InfixOperator.TheVariants.{Or, And, Equal, Less, Concatenate, Add}
use Rattle.pli_base.specs.declared.syntax.InfixOperator.TheVariants.{Subtract, Multiply}
use Rattle.pli_base.specs.declared.syntax.Joining.TheVariants.{Member, Located}
use Rattle.pli_base.specs.declared.token.Sign.TheVariants as signs
use Rattle.pli_base.specs.declared.token.TokenText.TheVariants.{Word, Decimal, Characters, Sign}
use Rattle.pli_parse_expression.specs.Reading.{counted, expression_at, reference_at}
use Rattle.pli_base.specs.Reading.{at_fault}

-- a name alone
abbrev pub plain : Name → ℕ → Expression
plain name at = Referred (Named (record { name = name; at = at }) Absent Alone)

-- - A + B * C is (- A) + (B * C)
abbrev pub SignAndSum : Type 0
SignAndSum =
    expression_at 64 0 0 (Sign signs.Minus ∷ Word (codes "A") ∷ Sign signs.Plus ∷ Word (codes "B")
    ∷ Sign signs.Times ∷ Word (codes "C") ∷ [])
    ≡ counted (Infix Add 2 (Prefix prefixes.Minus 0 (plain (codes "A") 1))
    (Infix Multiply 4 (plain (codes "B") 3) (plain (codes "C") 5))) 3 6 []

-- A - B - C is (A - B) - C
abbrev pub Differences : Type 0
Differences =
    expression_at 64 0 0 (Word (codes "A") ∷ Sign signs.Minus ∷ Word (codes "B") ∷ Sign signs.Minus
    ∷ Word (codes "C") ∷ [])
    ≡ counted (Infix Subtract 3 (Infix Subtract 1 (plain (codes "A") 0) (plain (codes "B") 2))
    (plain (codes "C") 4)) 2 5 []

-- 'AB' || C = D & ^ E is (('AB' || C) = D) & (^ E)
abbrev pub AllLevels : Type 0
AllLevels =
    expression_at 64 0 0 (Characters (codes "AB") ∷ Sign signs.Concatenate ∷ Word (codes "C")
    ∷ Sign signs.Equals ∷ Word (codes "D") ∷ Sign signs.And ∷ Sign signs.Not ∷ Word (codes "E") ∷ [])
    ≡ counted (Infix And 5
    (Infix Equal 3 (Infix Concatenate 1 (Constant 0 (constants.Characters (codes "AB")))
    (plain (codes "C") 2)) (plain (codes "D") 4)) (Prefix prefixes.Not 6 (plain (codes "E") 7))) 4 8 []

-- A < B = C is (A < B) = C
abbrev pub Comparisons : Type 0
Comparisons =
    expression_at 64 0 0 (Word (codes "A") ∷ Sign signs.Less ∷ Word (codes "B") ∷ Sign signs.Equals
    ∷ Word (codes "C") ∷ [])
    ≡ counted (Infix Equal 3 (Infix Less 1 (plain (codes "A") 0) (plain (codes "B") 2))
    (plain (codes "C") 4)) 2 5 []

-- A | B & C is A | (B & C), and ends at a semicolon
abbrev pub Alternatives : Type 0
Alternatives =
    expression_at 64 0 0 (Word (codes "A") ∷ Sign signs.Or ∷ Word (codes "B") ∷ Sign signs.And
    ∷ Word (codes "C") ∷ Sign signs.Semicolon ∷ [])
    ≡ counted (Infix Or 1 (plain (codes "A") 0)
    (Infix And 3 (plain (codes "B") 2) (plain (codes "C") 4))) 2 5 (Sign signs.Semicolon ∷ [])

-- P -> S.X(I, J)
abbrev pub LocatedMember : Type 0
LocatedMember =
    expression_at 64 0 0 (Word (codes "P") ∷ Sign signs.Arrow ∷ Word (codes "S") ∷ Sign signs.Period
    ∷ Word (codes "X") ∷ Sign signs.OpenParenthesis ∷ Word (codes "I") ∷ Sign signs.Comma ∷ Word (codes "J")
    ∷ Sign signs.CloseParenthesis ∷ [])
    ≡ counted (Referred (Named (record { name = codes "P"; at = 0 }) Absent
    (Joined Located (record { name = codes "S"; at = 2 }) Absent
    (Joined Member (record { name = codes "X"; at = 4 })
    (Given (Listed (plain (codes "I") 6) (Listed (plain (codes "J") 8) Empty))) Alone)))) 0 10 []

-- F() is not F
abbrev pub NoArguments : Type 0
NoArguments =
    expression_at 64 0 0 (Word (codes "F") ∷ Sign signs.OpenParenthesis ∷ Sign signs.CloseParenthesis ∷ [])
    ≡ counted (Referred (Named (record { name = codes "F"; at = 0 }) (Given Empty) Alone)) 0 3 []

-- (A) is not A
abbrev pub InParentheses : Type 0
InParentheses =
    expression_at 64 0 0 (Sign signs.OpenParenthesis ∷ Word (codes "A") ∷ Sign signs.CloseParenthesis ∷ [])
    ≡ counted (Parenthesized 0 (plain (codes "A") 1)) 0 3 []

-- A(1)(2) ends before the second list
abbrev pub TwoLists : Type 0
TwoLists =
    expression_at 64 0 0 (Word (codes "A") ∷ Sign signs.OpenParenthesis ∷ Decimal 1 1
    ∷ Sign signs.CloseParenthesis ∷ Sign signs.OpenParenthesis ∷ Decimal 2 1 ∷ Sign signs.CloseParenthesis
    ∷ [])
    ≡ counted (Referred (Named (record { name = codes "A"; at = 0 })
    (Given (Listed (Constant 2 (constants.Decimal 1 1)) Empty)) Alone)) 0 4
    (Sign signs.OpenParenthesis ∷ Decimal 2 1 ∷ Sign signs.CloseParenthesis ∷ [])

-- where the text ends, the fault stands at its last token
abbrev pub TextEnds : Type 0
TextEnds = expression_at 64 0 0 (Word (codes "A") ∷ Sign signs.Plus ∷ [])
    ≡ at_fault faults.EndMissing 1

-- A + )
abbrev pub NoOperand : Type 0
NoOperand = expression_at 64 0 0 (Word (codes "A") ∷ Sign signs.Plus ∷ Sign signs.CloseParenthesis ∷ [])
    ≡ at_fault faults.ExpressionExpected 2

-- (A ;
abbrev pub NotClosed : Type 0
NotClosed = expression_at 64 0 0 (Sign signs.OpenParenthesis ∷ Word (codes "A") ∷ Sign signs.Semicolon ∷ [])
    ≡ at_fault faults.ParenthesisExpected 2

-- A(; has no expression, which is optional there
abbrev pub NoListThere : Type 0
NoListThere = expression_at 64 0 0 (Word (codes "A") ∷ Sign signs.OpenParenthesis ∷ Sign signs.Semicolon ∷ [])
    ≡ at_fault faults.ParenthesisExpected 2

-- A(1, ) wants an expression after the comma
abbrev pub NothingAfterComma : Type 0
NothingAfterComma =
    expression_at 64 0 0 (Word (codes "A") ∷ Sign signs.OpenParenthesis ∷ Decimal 1 1 ∷ Sign signs.Comma
    ∷ Sign signs.CloseParenthesis ∷ [])
    ≡ at_fault faults.ExpressionExpected 4

-- A.1
abbrev pub NoMember : Type 0
NoMember = expression_at 64 0 0 (Word (codes "A") ∷ Sign signs.Period ∷ Decimal 1 1 ∷ [])
    ≡ at_fault faults.NameExpected 2

-- P -> (A)
abbrev pub NothingLocated : Type 0
NothingLocated =
    expression_at 64 0 0 (Word (codes "P") ∷ Sign signs.Arrow ∷ Sign signs.OpenParenthesis ∷ Word (codes "A")
    ∷ Sign signs.CloseParenthesis ∷ [])
    ≡ at_fault faults.NameExpected 2

-- A((B)) opens two levels
abbrev pub DeepestList : Type 0
DeepestList =
    expression_at 2 0 0 (Word (codes "A") ∷ Sign signs.OpenParenthesis ∷ Sign signs.OpenParenthesis
    ∷ Word (codes "B") ∷ Sign signs.CloseParenthesis ∷ Sign signs.CloseParenthesis ∷ [])
    ≡ counted (Referred (Named (record { name = codes "A"; at = 0 })
    (Given (Listed (Parenthesized 2 (plain (codes "B") 3)) Empty)) Alone)) 0 6 []

-- A((B)) where only one level may be opened
abbrev pub TooDeepList : Type 0
TooDeepList =
    expression_at 1 0 0 (Word (codes "A") ∷ Sign signs.OpenParenthesis ∷ Sign signs.OpenParenthesis
    ∷ Word (codes "B") ∷ Sign signs.CloseParenthesis ∷ Sign signs.CloseParenthesis ∷ [])
    ≡ at_fault faults.NestedTooDeep 2

-- - - A where only one level may be opened
abbrev pub TooDeepSign : Type 0
TooDeepSign = expression_at 1 0 0 (Sign signs.Minus ∷ Sign signs.Minus ∷ Word (codes "A") ∷ [])
    ≡ at_fault faults.NestedTooDeep 1

-- the thousandth operator
abbrev pub LastOperator : Type 0
LastOperator = expression_at 64 999 0 (Word (codes "A") ∷ Sign signs.Plus ∷ Word (codes "B") ∷ [])
    ≡ counted (Infix Add 1 (plain (codes "A") 0) (plain (codes "B") 2)) 1000 3 []

-- the next one, whatever stands after it
abbrev pub TooManyOperators : Type 0
TooManyOperators = expression_at 64 1000 0 (Word (codes "A") ∷ Sign signs.Plus ∷ Sign signs.Semicolon ∷ [])
    ≡ at_fault faults.NestedTooDeep 1

-- a reference ends before `=`, and its subscript is an outermost expression
abbrev pub Target : Type 0
Target =
    reference_at 64 0 (Word (codes "X") ∷ Sign signs.OpenParenthesis ∷ Word (codes "A") ∷ Sign signs.Plus
    ∷ Word (codes "B") ∷ Sign signs.CloseParenthesis ∷ Sign signs.Equals ∷ Decimal 1 1 ∷ [])
    ≡ counted (Named (record { name = codes "X"; at = 0 })
    (Given (Listed (Infix Add 3 (plain (codes "A") 2) (plain (codes "B") 4)) Empty)) Alone) 0 6
    (Sign signs.Equals ∷ Decimal 1 1 ∷ [])
