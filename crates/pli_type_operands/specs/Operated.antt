-- What operators make, one step after the other: their operands from left to right, then the operator.
use Rattle.std.specs.Prelude.{ℕ, Result, Ok}
use Rattle.pli_base.specs.Results.{◌>>=◌}
use Rattle.pli_base.specs.Syntax.{Expression}
use Rattle.pli_base.specs.declared.syntax.PrefixOperator.{PrefixOperator}
use Rattle.pli_base.specs.declared.syntax.InfixOperator.{InfixOperator}
use Rattle.pli_base.specs.declared.code.Code.TheVariants.{WrongOperandType}
use Rattle.pli_base.specs.declared.token.Fault.{Fault}
use Rattle.pli_type_rules.specs.ExpressionTypes.{TypedValue, prefix_value, infix_value}
use Rattle.pli_type_rules.specs.FunctionCalls.{Denoted, DenotesResult}
use Rattle.pli_type_rules.specs.Names.{Naming}
use Rattle.pli_type_rules.specs.Typing.{or_fault, value_of}

-- what a prefix operator at a token makes of a value
abbrev pub prefix_of : (greatest : ℕ) → PrefixOperator → (at : ℕ) → TypedValue → Result Denoted Fault
prefix_of greatest operator at v =
    or_fault WrongOperandType at (prefix_value greatest operator v) >>= λ u. Ok (DenotesResult u)

-- what it makes of its operand
abbrev pub prefixed : Naming → PrefixOperator → (at : ℕ) → (operand : Expression) → Result Denoted Fault
prefixed n operator at operand = value_of n operand >>= prefix_of n.greatest operator at

-- what an infix operator at a token makes of two values
abbrev pub infix_of : (greatest : ℕ) → InfixOperator → (at : ℕ) → (v w : TypedValue)
    → Result TypedValue Fault
infix_of greatest operator at v w = or_fault WrongOperandType at (infix_value greatest operator v w)

-- what it makes of a value and of its right operand
abbrev pub right_of : Naming → InfixOperator → (at : ℕ) → (right : Expression) → TypedValue
    → Result TypedValue Fault
right_of n operator at right v = value_of n right >>= infix_of n.greatest operator at v

-- what it makes of its operands
abbrev pub infixed : Naming → InfixOperator → (at : ℕ) → (left right : Expression) → Result TypedValue Fault
infixed n operator at left right = value_of n left >>= right_of n operator at right
