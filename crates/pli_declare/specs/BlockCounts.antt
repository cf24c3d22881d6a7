-- How many blocks begin in statements (own).
use Rattle.std.specs.Prelude.{ℕ, suc, ◌+◌}
use Rattle.pli_base.specs.Statements.{Statement, Numbered, Body, Procedure, Begin, Do, If, On}
use Rattle.pli_base.specs.Statements.{Statements, Ended, Before, Alternative, NoElse, Else}

-- how many blocks begin in a statement
abbrev mutual
  pub blocks_in : Statement → ℕ
  blocks_in (Numbered number label at body) = blocks_of body

  -- how many begin in what a statement is: itself, if it is one, and those inside
  pub blocks_of : Body → ℕ
  blocks_of (Procedure heading statements end) = suc (blocks_among statements)
  blocks_of (Begin statements end) = suc (blocks_among statements)
  blocks_of (Do control statements end) = blocks_among statements
  blocks_of (If condition consequence alternative) = blocks_in consequence + blocks_in_else alternative
  blocks_of (On condition unit) = suc (blocks_in unit)
  blocks_of body = 0

  -- how many begin in the statements of a list
  pub blocks_among : Statements → ℕ
  blocks_among Ended = 0
  blocks_among (Before first more) = blocks_in first + blocks_among more

  -- how many begin in an ELSE
  pub blocks_in_else : Alternative → ℕ
  blocks_in_else NoElse = 0
  blocks_in_else (Else statement) = blocks_in statement
