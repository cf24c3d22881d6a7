-- Trees of expressions and references, as definitions speak of them (X3.74): without where they lie in
-- memory.
use Rattle.std.specs.Prelude.{ℕ}
use Rattle.pli_base.specs.declared.syntax.Identifier.{Identifier}
use Rattle.pli_base.specs.declared.syntax.ConstantValue.{ConstantValue}
use Rattle.pli_base.specs.declared.syntax.PrefixOperator.{PrefixOperator}
use Rattle.pli_base.specs.declared.syntax.InfixOperator.{InfixOperator}
use Rattle.pli_base.specs.declared.syntax.Joining.{Joining}

mutual
  -- a place is that of a token: of the constant, of `(`, of the operator
  pub data Expression : Type 0 where
    Referred : (reference : Reference) → Expression
    Constant : (at : ℕ) (value : ConstantValue) → Expression
    Parenthesized : (at : ℕ) (inner : Expression) → Expression
    Prefix : (operator : PrefixOperator) (at : ℕ) (operand : Expression) → Expression
    Infix : (operator : InfixOperator) (at : ℕ) (left right : Expression) → Expression

  -- a name, what stands in parentheses after it, and the parts that are joined to it
  pub data Reference : Type 0 where
    Named : (name : Identifier) (arguments : Arguments) (more : JoinedParts) → Reference

  -- the parts after `.` or `->`, each with what joins it to the one before
  pub data JoinedParts : Type 0 where
    Alone : JoinedParts
    Joined : (joining : Joining) (name : Identifier) (arguments : Arguments) (more : JoinedParts)
        → JoinedParts

  -- `F()` has an empty list, and `F` has none
  pub data Arguments : Type 0 where
    Absent : Arguments
    Given : (list : Expressions) → Arguments

  -- a list of expressions
  pub data Expressions : Type 0 where
    Empty : Expressions
    Listed : (first : Expression) (more : Expressions) → Expressions

-- the token of a reference's first name
abbrev pub first_token : Reference → ℕ
first_token (Named name arguments more) = name.at
