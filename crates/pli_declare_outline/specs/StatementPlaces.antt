-- The statements of a unit in the order of its text (X3.74, numbers own): which begin a region, and in which
-- region each stands. Regions are numbered as the outline numbers them.
use Rattle.std.specs.Prelude.{ℕ, ◌+◌, None, List, [], ◌∷◌, ◌++◌}
use Rattle.pli_base.specs.Statements.{Statement, Numbered, Body, Statements, Ended, Before, Alternative}
use Rattle.pli_base.specs.Statements.{NoElse, Else, ExternalProcedure}
use Rattle.pli_base.specs.Statements as body
use Rattle.pli_declare_outline.specs.Outlines.{regions_in}
use Rattle.pli_declare_outline.specs.declared.statement_places.StatementPlace.{StatementPlace}

-- the numbers of the statements that begin regions: PROCEDURE, BEGIN, DO and ON
abbrev mutual
  pub statement_starts : Statement → List ℕ
  statement_starts (Numbered number label at body) = body_starts number body

  -- the same of what a statement is
  pub body_starts : (number : ℕ) → Body → List ℕ
  body_starts number (body.Procedure heading statements end) = number ∷ statements_starts statements
  body_starts number (body.Begin statements end) = number ∷ statements_starts statements
  body_starts number (body.Do control statements end) = number ∷ statements_starts statements
  body_starts number (body.If condition consequence alternative) =
      statement_starts consequence ++ alternative_starts alternative
  body_starts number (body.On condition unit) = number ∷ statement_starts unit
  body_starts number other = []

  -- of each statement of a list
  pub statements_starts : Statements → List ℕ
  statements_starts Ended = []
  statements_starts (Before first more) = statement_starts first ++ statements_starts more

  -- of an ELSE
  pub alternative_starts : Alternative → List ℕ
  alternative_starts NoElse = []
  alternative_starts (Else statement) = statement_starts statement

-- the END of a region, which stands in it
abbrev pub end_place : (region end : ℕ) → List StatementPlace
end_place region end = record { number = end; region = region; label = None } ∷ []

-- the statements in the region here, and those inside them; the first region that begins has the number next
abbrev mutual
  pub statement_places : (here next : ℕ) → Statement → List StatementPlace
  statement_places here next (Numbered number label at body) =
      record { number = number; region = here; label = label } ∷ body_places here next body

  -- those inside a statement
  pub body_places : (here next : ℕ) → Body → List StatementPlace
  body_places here next (body.Procedure heading statements end) =
      statements_places next (next + 1) statements ++ end_place next end
  body_places here next (body.Begin statements end) =
      statements_places next (next + 1) statements ++ end_place next end
  body_places here next (body.Do control statements end) =
      statements_places next (next + 1) statements ++ end_place next end
  body_places here next (body.If condition consequence alternative) =
      statement_places here next consequence
      ++ alternative_places here (next + regions_in consequence) alternative
  body_places here next (body.On condition unit) = statement_places next (next + 1) unit
  body_places here next other = []

  -- those of a list
  pub statements_places : (here next : ℕ) → Statements → List StatementPlace
  statements_places here next Ended = []
  statements_places here next (Before first more) =
      statement_places here next first ++ statements_places here (next + regions_in first) more

  -- those of an ELSE
  pub alternative_places : (here next : ℕ) → Alternative → List StatementPlace
  alternative_places here next NoElse = []
  alternative_places here next (Else statement) = statement_places here next statement

-- the statements that begin the regions of a unit: its PROCEDURE begins region 0
unfoldable pub unit_starts : ExternalProcedure → List ℕ
unit_starts u = u.heading.number ∷ statements_starts u.statements

-- the statements of a unit, its PROCEDURE and its END included
unfoldable pub unit_places : ExternalProcedure → List StatementPlace
unit_places u =
    record { number = u.heading.number; region = 0; label = None }
    ∷ statements_places 0 1 u.statements ++ end_place 0 u.end
