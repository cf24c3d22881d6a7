-- Reading expressions and references (X3.74, limits own). The operators of an outermost expression are
-- counted.
use Rattle.std.specs.Prelude.{ℕ, zero, suc, ◌+◌, nat_lt, Option, Some, None, ◌∷◌, [], length, option_map}
use Rattle.std.specs.Prelude.{if◌then◌else◌}
use Rattle.pli_base.specs.Words.{Tokens, is_open, is_close, is_comma}
use Rattle.pli_base.specs.Reading.{at_fault, expected, read_as}
use Rattle.pli_base.specs.Syntax.{Expression, Referred, Constant, Parenthesized, Prefix, Infix, Reference}
use Rattle.pli_base.specs.Syntax.{Named, JoinedParts, Alone, Joined, Arguments, Absent, Given, Expressions}
use Rattle.pli_base.specs.Syntax.{Empty, Listed}
use Rattle.pli_base.specs.declared.code.Code.TheVariants.{ExpressionExpected, ParenthesisExpected}
use Rattle.pli_base.specs.declared.code.Code.TheVariants.{NameExpected, NestedTooDeep}
use Rattle.pli_base.specs.declared.syntax.ConstantValue.TheVariants as constants
use Rattle.pli_base.specs.declared.syntax.PrefixOperator.{PrefixOperator}
use Rattle.pli_base.specs.declared.syntax.PrefixOperator.TheVariants as prefixes
use Rattle.pli_base.specs.declared.syntax.InfixOperator.{InfixOperator}
use Rattle.pli_base.specs.declared.syntax.InfixOperator.TheVariants.{Or, And, Equal, NotEqual, Less}
use Rattle.pli_base.specs.declared.syntax.InfixOperator.TheVariants.{LessOrEqual, Greater, GreaterOrEqual}
use Rattle.pli_base.specs.declared.syntax.InfixOperator.TheVariants.{Concatenate, Add, Subtract, Multiply}
use Rattle.pli_base.specs.declared.token.Sign.TheVariants as signs
use Rattle.pli_base.specs.declared.token.TokenText.{TokenText}
use Rattle.pli_base.specs.declared.token.TokenText.TheVariants.{Word, Decimal, Binary, Characters, Bits, Sign}
use Rattle.pli_parse_expression.specs.Operators.{operator_limit, joining_at, begins_expression}
use Rattle.pli_parse_expression.specs.declared.counted.Counted.{Counted}
use Rattle.pli_parse_declaration.specs.DeclarationReading.{identifier_at}
use Rattle.pli_parse_statement.specs.StatementReading.{paired}
use Rattle.pli_grammar.specs.Readers.{Reader, made, fails, token, after_token, by_meaning}
use Rattle.pli_grammar.specs.Readers.{◌>>=◌ as ◌>>-◌}

-- what reads a part of an expression, before which so many of its operators stand
abbrev pub Counting : Type 0 → Type 0
Counting A = (count : ℕ) → Reader (Counted A)

infixl 10 ◌>>=◌
-- one after another
abbrev pub ◌>>=◌ : {A B : Type 0} → Counting A → (A → Counting B) → Counting B
read >>= next = λ count. read count >>- λ x. next x.tree x.count

-- what reads no operator
abbrev pub plain : {A : Type 0} → Reader A → Counting A
plain read count = made (λ x. record { tree = x; count = count }) read

-- a value; nothing is read
abbrev pub given : {A : Type 0} → A → Counting A
given x = plain (read_as x)

-- what is outermost: its operators are counted from 0
abbrev pub outermost : {A : Type 0} → Counting A → Reader A
outermost read = made (λ x. x.tree) (read 0)

-- one operator more, which stands at this place, if there are not too many before it
abbrev pub operator_more : (at : ℕ) → Counting (Unit {0})
operator_more at count p ts =
    if nat_lt count operator_limit then given tt (count + 1) p ts else at_fault NestedTooDeep at

-- one level more, which is opened at this place, if one may still be: what reads inside it
abbrev pub opened : {A : Type 0} → Option (Counting Expression) → (at : ℕ)
    → (Counting Expression → Counting A) → Counting A
opened None at read count = fails NestedTooDeep at
opened (Some inside) at read count = read inside count

-- what is read, and the `)` after it
abbrev pub closing : {A : Type 0} → Counting A → Counting A
closing read = do
  x ← read
  _ ← plain (token is_close ParenthesisExpected)
  given x

-- the infix operator that a token is, and its priority, from 1 to 6: the greater binds the tighter (X3.74)
abbrev pub infix_of : TokenText → Option (InfixOperator × ℕ)
infix_of (Sign signs.Or) = Some (Or, 1)
infix_of (Sign signs.And) = Some (And, 2)
infix_of (Sign signs.Equals) = Some (Equal, 3)
infix_of (Sign signs.NotEqual) = Some (NotEqual, 3)
infix_of (Sign signs.Less) = Some (Less, 3)
infix_of (Sign signs.LessOrEqual) = Some (LessOrEqual, 3)
infix_of (Sign signs.Greater) = Some (Greater, 3)
infix_of (Sign signs.GreaterOrEqual) = Some (GreaterOrEqual, 3)
infix_of (Sign signs.Concatenate) = Some (Concatenate, 4)
infix_of (Sign signs.Plus) = Some (Add, 5)
infix_of (Sign signs.Minus) = Some (Subtract, 5)
infix_of (Sign signs.Times) = Some (Multiply, 6)
infix_of t = None

-- an operator and its priority, where that is min or more
abbrev pub at_least : (min : ℕ) → Option (InfixOperator × ℕ) → Option (InfixOperator × ℕ)
at_least min None = None
at_least min (Some operator) = if nat_lt operator.1 min then None else Some operator

-- the infix operator of priority min or more that the tokens begin with, and what stands after it
abbrev pub operator_first : (min : ℕ) → Tokens → Option ((InfixOperator × ℕ) × Tokens)
operator_first min [] = None
operator_first min (t ∷ ts) = paired ts (at_least min (infix_of t))

-- goes on as long as infix operators of priority min or more come, each with its right operand, which takes
-- all that binds tighter; each takes one of the bound, which is more than the number of tokens
unfoldable pub infix_from : (operand : Counting Expression) → (bound min : ℕ) → Expression
    → Counting Expression
infix_from operand zero min left count p ts = expected ExpressionExpected p ts
infix_from operand (suc bound) min left count p ts =
    by_meaning (λ operator. (do
      _ ← operator_more p
      first ← operand
      right ← infix_from operand bound (operator.1 + 1) first
      infix_from operand bound min (Infix operator.0 p left right)) count)
    (given left count) p ts (operator_first min ts)

-- the longest expression of such operands
abbrev pub expression_of : (operand : Counting Expression) → Counting Expression
expression_of operand count p ts = (operand >>= infix_from operand (length ts + 1) 0) count p ts

-- expressions, each after a comma; each takes one of the bound, which is more than the number of tokens
unfoldable pub further : (one : Counting Expression) → (bound : ℕ) → Counting Expressions
further one zero count p ts = expected ExpressionExpected p ts
further one (suc bound) count p ts = after_token is_comma ((do
  first ← one
  others ← further one bound
  given (Listed first others)) count) (given Empty count) p ts

-- one expression or more
abbrev pub expressions : (one : Counting Expression) → Counting Expressions
expressions one = do
  first ← one
  others ← λ count p ts. further one (length ts + 1) count p ts
  given (Listed first others)

-- after `(`: expressions and `)`, or `)` alone
abbrev pub list : (one : Counting Expression) → Counting Expressions
list one = closing (λ count p ts.
    if begins_expression ts then expressions one count p ts else given Empty count p ts)

-- what reads an argument, if a level may still be opened
module _ (one : Option (Counting Expression)) where
  -- what stands in parentheses after a name, if there are some
  abbrev pub arguments : Counting Arguments
  arguments count p =
      after_token is_open (opened one p (λ one. list one >>= λ x. given (Given x)) count)
      (given Absent count) p

  -- parts, as long as `.` or `->` comes; each takes one of the bound, which is more than the number of tokens
  unfoldable pub joined : (bound : ℕ) → Counting JoinedParts
  joined zero count p ts = expected NameExpected p ts
  joined (suc bound) count p ts = by_meaning (λ joining. (do
    name ← plain identifier_at
    given_to ← arguments
    others ← joined bound
    given (Joined joining name given_to others)) count) (given Alone count) p ts (joining_at ts)

  -- a reference
  abbrev pub reference_of : Counting Reference
  reference_of = do
    name ← plain identifier_at
    given_to ← arguments
    others ← λ count p ts. joined (length ts + 1) count p ts
    given (Named name given_to others)

-- a constant
abbrev pub constant : Reader Expression
constant p (Decimal v d ∷ ts) = read_as (Constant p (constants.Decimal v d)) (p + 1) ts
constant p (Binary v d ∷ ts) = read_as (Constant p (constants.Binary v d)) (p + 1) ts
constant p (Characters s ∷ ts) = read_as (Constant p (constants.Characters s)) (p + 1) ts
constant p (Bits s ∷ ts) = read_as (Constant p (constants.Bits s)) (p + 1) ts
constant p ts = expected ExpressionExpected p ts

-- what reads one level deeper, if a level may still be opened
module _ (inside : Option (Counting Expression)) where
  -- after a prefix operator, which opens a level
  abbrev pub prefixed : PrefixOperator → (at : ℕ) → Counting Expression
  prefixed operator at = do
    _ ← operator_more at
    operand ← opened inside at (λ operand. operand)
    given (Prefix operator at operand)

  -- an operand
  abbrev pub operand_of : Counting Expression
  operand_of count p (Sign signs.OpenParenthesis ∷ ts) =
      (closing (opened inside p expression_of) >>= λ x. given (Parenthesized p x)) count (p + 1) ts
  operand_of count p (Sign signs.Plus ∷ ts) = prefixed prefixes.Plus p count (p + 1) ts
  operand_of count p (Sign signs.Minus ∷ ts) = prefixed prefixes.Minus p count (p + 1) ts
  operand_of count p (Sign signs.Not ∷ ts) = prefixed prefixes.Not p count (p + 1) ts
  operand_of count p (Word n ∷ ts) =
      (reference_of (option_map expression_of inside) >>= λ x. given (Referred x)) count p (Word n ∷ ts)
  operand_of count p ts = plain constant count p ts

-- what reads an operand one level deeper, where so many levels may still be opened
unfoldable pub inside : (levels : ℕ) → Option (Counting Expression)
inside zero = None
inside (suc levels) = Some (operand_of (inside levels))

-- an argument of a reference that is no part of an expression: it is outermost
abbrev pub argument : (levels : ℕ) → Option (Counting Expression)
argument levels = option_map (λ operand. plain (outermost (expression_of operand))) (inside levels)
