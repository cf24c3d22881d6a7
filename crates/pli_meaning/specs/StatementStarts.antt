-- Where the statements of a tree begin: an assignment at the first token of its target, and an inner
-- procedure is labelled by its own name.
use Rattle.std.specs.Prelude.{◌≡◌, ℕ, Option, Some, Ok}
use Rattle.pli_base.specs.Statements.{Statement, Numbered, Body, Assign, Procedure, Begin, Do, If, On}
use Rattle.pli_base.specs.Statements.{Statements, Ended, Before, Alternative, NoElse, Else, ExternalProcedure}
use Rattle.pli_base.specs.Syntax.{first_token}
use Rattle.pli_base.specs.Words.{Tokens}
use Rattle.pli_base.specs.declared.syntax.Identifier.{Identifier}
use Rattle.pli_parse_statement.specs.StatementReading.{unit_of}

abbrev mutual
  -- the statements in a statement, itself included, begin so
  pub Begins : Statement → Type 0
  Begins (Numbered number label at body) = BodyBegins label at body

  -- the same of what a statement is, by its label and its first token
  pub BodyBegins : (label : Option Identifier) → (at : ℕ) → Body → Type 0
  BodyBegins label at (Assign target equals value) = at ≡ first_token target
  BodyBegins label at (Procedure heading statements end) = (label ≡ Some heading.name) × AllBegin statements
  BodyBegins label at (Begin statements end) = AllBegin statements
  BodyBegins label at (Do control statements end) = AllBegin statements
  BodyBegins label at (If condition consequence alternative) = Begins consequence × ElseBegins alternative
  BodyBegins label at (On condition unit) = Begins unit
  BodyBegins label at body = Unit {0}

  -- of each statement of a list
  pub AllBegin : Statements → Type 0
  AllBegin Ended = Unit {0}
  AllBegin (Before first more) = Begins first × AllBegin more

  -- of an ELSE
  pub ElseBegins : Alternative → Type 0
  ElseBegins NoElse = Unit {0}
  ElseBegins (Else statement) = Begins statement

-- so it is in each unit that is read
abbrev pub StatementsBegin : Type 0
StatementsBegin = (ts : Tokens) (u : ExternalProcedure) → unit_of ts ≡ Ok u → AllBegin u.statements
