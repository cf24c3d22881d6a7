-- Statements that are numbered in the order of the text.
use Rattle.std.specs.Prelude.{◌≡◌, ℕ, suc, ◌+◌}
use Rattle.pli_base.specs.Statements.{Statement, Numbered, Body, Procedure, Begin, Do, If, On, Statements}
use Rattle.pli_base.specs.Statements.{Ended, Before, Alternative, NoElse, Else, count, list_count}

-- the first has this number, and each other the next one; so has the END of a list in a statement
abbrev mutual
  pub IsNumbered : (from : ℕ) → Statement → Type 0
  IsNumbered k (Numbered number label at body) = (number ≡ k) × IsNumberedBody (suc k) body

  -- the same of what a statement is, after its own number
  pub IsNumberedBody : (from : ℕ) → Body → Type 0
  IsNumberedBody k (Procedure heading statements end) =
      AreNumbered k statements × (end ≡ k + list_count statements)
  IsNumberedBody k (Begin statements end) = AreNumbered k statements × (end ≡ k + list_count statements)
  IsNumberedBody k (Do control statements end) = AreNumbered k statements × (end ≡ k + list_count statements)
  IsNumberedBody k (If condition consequence alternative) =
      IsNumbered k consequence × IsNumberedElse (k + count consequence) alternative
  IsNumberedBody k (On condition unit) = IsNumbered k unit
  IsNumberedBody k body = Unit {0}

  -- of the statements of a list, one after another
  pub AreNumbered : (from : ℕ) → Statements → Type 0
  AreNumbered k Ended = Unit {0}
  AreNumbered k (Before first more) = IsNumbered k first × AreNumbered (k + count first) more

  -- of an ELSE
  pub IsNumberedElse : (from : ℕ) → Alternative → Type 0
  IsNumberedElse k NoElse = Unit {0}
  IsNumberedElse k (Else statement) = IsNumbered k statement
