-- How many numbers of blocks and of temporaries statements take, at most: four of a region, which is a block
-- or keeps three numbers at most as a group, and one of an item of ALLOCATE.
use Rattle.std.specs.Prelude.{ℕ, ◌+◌, length}
use Rattle.pli_base.specs.Statements.{Statement, Numbered, Body, Procedure, Begin, Do, If, On, Allocate}
use Rattle.pli_base.specs.Statements.{Statements, Ended, Before, Alternative, NoElse, Else}

-- how many a statement takes
abbrev mutual
  pub taken_in : Statement → ℕ
  taken_in (Numbered number label at body) = taken_of body

  -- how many it takes by what it is, with the statements in it
  pub taken_of : Body → ℕ
  taken_of (Procedure heading statements end) = 4 + taken_among statements
  taken_of (Begin statements end) = 4 + taken_among statements
  taken_of (Do control statements end) = 4 + taken_among statements
  taken_of (If condition consequence alternative) = taken_in consequence + taken_else alternative
  taken_of (On condition unit) = 4 + taken_in unit
  taken_of (Allocate items) = length items
  taken_of other = 0

  -- how many the statements of a list take
  pub taken_among : Statements → ℕ
  taken_among Ended = 0
  taken_among (Before first more) = taken_in first + taken_among more

  -- how many an ELSE takes
  pub taken_else : Alternative → ℕ
  taken_else NoElse = 0
  taken_else (Else statement) = taken_in statement
