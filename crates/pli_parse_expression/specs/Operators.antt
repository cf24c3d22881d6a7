-- Operators: their signs and priorities. The tokens of constants, and tests of tokens.
use Rattle.std.specs.Prelude.{ℕ, nat_lt, Bool, true, false, Option, Some, None, [], ◌∷◌, if◌then◌else◌}
use Rattle.pli_base.specs.Syntax.{Expression, Infix}
use Rattle.pli_base.specs.declared.syntax.ConstantValue.{ConstantValue}
use Rattle.pli_base.specs.declared.syntax.ConstantValue.TheVariants as constants
use Rattle.pli_base.specs.declared.syntax.PrefixOperator.{PrefixOperator}
use Rattle.pli_base.specs.declared.syntax.PrefixOperator.TheVariants as prefixes
use Rattle.pli_base.specs.declared.syntax.InfixOperator.{InfixOperator}
use Rattle.pli_base.specs.declared.syntax.InfixOperator.TheVariants.{Or, And, Equal, NotEqual, Less}
use Rattle.pli_base.specs.declared.syntax.InfixOperator.TheVariants.{LessOrEqual, Greater, GreaterOrEqual}
use Rattle.pli_base.specs.declared.syntax.InfixOperator.TheVariants.{Concatenate, Add, Subtract, Multiply}
use Rattle.pli_base.specs.declared.syntax.Joining.{Joining}
use Rattle.pli_base.specs.declared.syntax.Joining.TheVariants.{Member, Located}
use Rattle.pli_base.specs.declared.token.Sign.{Sign}
use Rattle.pli_base.specs.declared.token.Sign.TheVariants as signs
use Rattle.pli_base.specs.declared.token.TokenText.{TokenText}
use Rattle.pli_base.specs.declared.token.TokenText.TheVariants as tokens
use Rattle.pli_base.specs.Words.{Tokens}

-- the greatest number of operators in an expression (own)
abbrev pub operator_limit : ℕ
operator_limit = 1000

-- the greatest depth of nesting (own)
abbrev pub nesting_limit : ℕ
nesting_limit = 64

-- the sign of a prefix operator
abbrev pub prefix_sign : PrefixOperator → Sign
prefix_sign prefixes.Plus = signs.Plus
prefix_sign prefixes.Minus = signs.Minus
prefix_sign prefixes.Not = signs.Not

-- the sign of an infix operator
abbrev pub infix_sign : InfixOperator → Sign
infix_sign Or = signs.Or
infix_sign And = signs.And
infix_sign Equal = signs.Equals
infix_sign NotEqual = signs.NotEqual
infix_sign Less = signs.Less
infix_sign LessOrEqual = signs.LessOrEqual
infix_sign Greater = signs.Greater
infix_sign GreaterOrEqual = signs.GreaterOrEqual
infix_sign Concatenate = signs.Concatenate
infix_sign Add = signs.Plus
infix_sign Subtract = signs.Minus
infix_sign Multiply = signs.Times

-- the priority of an infix operator, from 1 to 6: the greater binds the tighter (X3.74)
abbrev pub level_of : InfixOperator → ℕ
level_of Or = 1
level_of And = 2
level_of Equal = 3
level_of NotEqual = 3
level_of Less = 3
level_of LessOrEqual = 3
level_of Greater = 3
level_of GreaterOrEqual = 3
level_of Concatenate = 4
level_of Add = 5
level_of Subtract = 5
level_of Multiply = 6

-- the level of what is no infix expression
abbrev pub operand_level : ℕ
operand_level = 7

-- the level of an expression is that of its last operator
abbrev pub level : Expression → ℕ
level (Infix operator at left right) = level_of operator
level e = operand_level

-- the sign that joins two names of a reference
abbrev pub joining_sign : Joining → Sign
joining_sign Member = signs.Period
joining_sign Located = signs.Arrow

-- the token of a constant
abbrev pub constant_token : ConstantValue → TokenText
constant_token (constants.Decimal value digits) = tokens.Decimal value digits
constant_token (constants.Binary value digits) = tokens.Binary value digits
constant_token (constants.Characters string) = tokens.Characters string
constant_token (constants.Bits string) = tokens.Bits string

-- the infix operator that a token is
abbrev pub infix_of : TokenText → Option InfixOperator
infix_of (tokens.Sign signs.Or) = Some Or
infix_of (tokens.Sign signs.And) = Some And
infix_of (tokens.Sign signs.Equals) = Some Equal
infix_of (tokens.Sign signs.NotEqual) = Some NotEqual
infix_of (tokens.Sign signs.Less) = Some Less
infix_of (tokens.Sign signs.LessOrEqual) = Some LessOrEqual
infix_of (tokens.Sign signs.Greater) = Some Greater
infix_of (tokens.Sign signs.GreaterOrEqual) = Some GreaterOrEqual
infix_of (tokens.Sign signs.Concatenate) = Some Concatenate
infix_of (tokens.Sign signs.Plus) = Some Add
infix_of (tokens.Sign signs.Minus) = Some Subtract
infix_of (tokens.Sign signs.Times) = Some Multiply
infix_of t = None

-- an operator and what stands after it, where its level is min or more
abbrev pub not_below : ℕ → Option InfixOperator → Tokens → Option (InfixOperator × Tokens)
not_below min None ts = None
not_below min (Some operator) ts = if nat_lt (level_of operator) min then None else Some (operator, ts)

-- the infix operator of level min or more that the tokens begin with, and what stands after it
unfoldable pub operator_at : ℕ → Tokens → Option (InfixOperator × Tokens)
operator_at min [] = None
operator_at min (t ∷ ts) = not_below min (infix_of t) ts

-- how the part that comes next is joined, and what stands after `.` or `->`
unfoldable pub joining_at : Tokens → Option (Joining × Tokens)
joining_at (tokens.Sign signs.Period ∷ ts) = Some (Member, ts)
joining_at (tokens.Sign signs.Arrow ∷ ts) = Some (Located, ts)
joining_at ts = None

-- an expression can begin with the first token
unfoldable pub begins_expression : Tokens → Bool
begins_expression [] = false
begins_expression (tokens.Sign signs.OpenParenthesis ∷ ts) = true
begins_expression (tokens.Sign signs.Plus ∷ ts) = true
begins_expression (tokens.Sign signs.Minus ∷ ts) = true
begins_expression (tokens.Sign signs.Not ∷ ts) = true
begins_expression (tokens.Sign s ∷ ts) = false
begins_expression (t ∷ ts) = true

-- a reference that ends in a name goes on with the token
abbrev pub continues_reference : TokenText → Bool
continues_reference (tokens.Sign signs.OpenParenthesis) = true
continues_reference (tokens.Sign signs.Period) = true
continues_reference (tokens.Sign signs.Arrow) = true
continues_reference t = false
