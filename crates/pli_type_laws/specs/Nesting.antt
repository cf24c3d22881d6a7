-- How deep statements nest, and where procedures stand.
use Rattle.std.specs.Prelude.{ℕ, Bool, true, false, IsTrue}
use Rattle.pli_base.specs.Statements.{Statement, Numbered, Body, Procedure, Begin, Do, If, On, Statements}
use Rattle.pli_base.specs.Statements.{Ended, Before, Alternative, NoElse, Else}
use Rattle.pli_parse_expression.specs.Expressions.{Deeper}

-- PROCEDURE, BEGIN, DO, IF and ON open one of so many levels each; a procedure stands directly in the list of
-- a block
abbrev mutual
  pub NestsWithin : (direct : Bool) → (levels : ℕ) → Statement → Type 0
  NestsWithin direct n (Numbered number label at body) = BodyNests direct n body

  -- the same of what a statement is
  pub BodyNests : (direct : Bool) → (levels : ℕ) → Body → Type 0
  BodyNests direct n (Procedure heading statements end) =
      IsTrue direct × Deeper (λ m. ListNests true m statements) n
  BodyNests direct n (Begin statements end) = Deeper (λ m. ListNests true m statements) n
  BodyNests direct n (Do control statements end) = Deeper (λ m. ListNests false m statements) n
  BodyNests direct n (If condition consequence alternative) =
      Deeper (λ m. NestsWithin false m consequence × ElseNests m alternative) n
  BodyNests direct n (On condition unit) = Deeper (λ m. NestsWithin false m unit) n
  BodyNests direct n body = Unit {0}

  -- of each statement of a list
  pub ListNests : (direct : Bool) → (levels : ℕ) → Statements → Type 0
  ListNests direct n Ended = Unit {0}
  ListNests direct n (Before first more) = NestsWithin direct n first × ListNests direct n more

  -- of an ELSE
  pub ElseNests : (levels : ℕ) → Alternative → Type 0
  ElseNests n NoElse = Unit {0}
  ElseNests n (Else statement) = NestsWithin false n statement
