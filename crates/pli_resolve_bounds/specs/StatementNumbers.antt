-- How great the numbers of statements are.
use Rattle.std.specs.Prelude.{◌≡◌, ℕ, ◌+◌, ◌<◌, length, Ok}
use Rattle.pli_base.specs.Statements.{Statement, Numbered, Body, Procedure, Begin, Do, If, On, Statements}
use Rattle.pli_base.specs.Statements.{Ended, Before, Alternative, NoElse, Else, ExternalProcedure, list_count}
use Rattle.pli_base.specs.Words.{Tokens}
use Rattle.pli_parse_statement.specs.StatementReading.{unit_of}

-- the number of a statement, of each statement inside it and of each END there is less than this
abbrev mutual
  pub IsBelow : (bound : ℕ) → Statement → Type 0
  IsBelow n (Numbered number label at body) = (number < n) × IsBodyBelow n body

  -- the same of what a statement is
  pub IsBodyBelow : (bound : ℕ) → Body → Type 0
  IsBodyBelow n (Procedure heading statements end) =
      (heading.number < n) × AreBelow n statements × (end < n)
  IsBodyBelow n (Begin statements end) = AreBelow n statements × (end < n)
  IsBodyBelow n (Do control statements end) = AreBelow n statements × (end < n)
  IsBodyBelow n (If condition consequence alternative) = IsBelow n consequence × IsElseBelow n alternative
  IsBodyBelow n (On condition unit) = IsBelow n unit
  IsBodyBelow n body = Unit {0}

  -- of each statement of a list
  pub AreBelow : (bound : ℕ) → Statements → Type 0
  AreBelow n Ended = Unit {0}
  AreBelow n (Before first more) = IsBelow n first × AreBelow n more

  -- of an ELSE
  pub IsElseBelow : (bound : ℕ) → Alternative → Type 0
  IsElseBelow n NoElse = Unit {0}
  IsElseBelow n (Else statement) = IsBelow n statement

-- the heading has the least number, the last END the greatest
pub record NumbersAreBelow (bound : ℕ) (u : ExternalProcedure) : Type 0 where
  pub heading : u.heading.number < bound
  pub statements : AreBelow bound u.statements
  pub counted : u.end ≡ 2 + list_count u.statements
  pub end : u.end < bound

-- each statement of a unit that is read begins at a token of its own, so its number is less than there are
-- tokens
abbrev pub StatementsAreFew : Type 0
StatementsAreFew =
    (texts : Tokens) (u : ExternalProcedure) → unit_of texts ≡ Ok u → NumbersAreBelow (length texts) u
