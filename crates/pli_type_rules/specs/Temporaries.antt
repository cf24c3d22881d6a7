-- The temporaries of statements. Those of a block are counted from 0 in the order of the text. At which
-- tokens stand names of BASED variables is known: ALLOCATE has a temporary for each of them.
use Rattle.std.specs.Prelude.{ℕ, suc, ◌+◌, Bool, Option, Some, None, List, [], ◌∷◌, if◌then◌else◌}
use Rattle.pli_base.specs.Statements.{Range, To, By, Repeat, Control, While, Iterate, Statement, Numbered}
use Rattle.pli_base.specs.Statements.{Allocation, Body, Do, If, Allocate, Statements, Ended, Before}
use Rattle.pli_base.specs.Statements.{Alternative, NoElse, Else}
use Rattle.pli_declare.specs.BlockCounts.{blocks_in}

-- what a group keeps of what limits it: TO and BY, and 1 where TO stands without BY
abbrev pub limits_kept : Option Range → ℕ
limits_kept None = 0
limits_kept (Some (To to by)) = 2
limits_kept (Some (By by None)) = 1
limits_kept (Some (By by (Some to))) = 2
limits_kept (Some (Repeat next)) = 0

-- and what its variable begins with
abbrev pub kept_by : Option Control → ℕ
kept_by None = 0
kept_by (Some (While condition)) = 0
kept_by (Some (Iterate variable equals first range condition)) = suc (limits_kept range)

-- how many items of ALLOCATE are of BASED variables
abbrev pub based_among : (is_based : (at : ℕ) → Bool) → List Allocation → ℕ
based_among is_based [] = 0
based_among is_based (a ∷ others) =
    (if is_based a.name.at then 1 else 0) + based_among is_based others

-- how many temporaries a statement has in its block
abbrev mutual
  pub temporaries_in : (is_based : (at : ℕ) → Bool) → Statement → ℕ
  temporaries_in is_based (Numbered number label at body) = temporaries_of is_based body

  -- how many it has by what it is; those of blocks in it are their own
  pub temporaries_of : (is_based : (at : ℕ) → Bool) → Body → ℕ
  temporaries_of is_based (Do control statements end) =
      kept_by control + temporaries_among is_based statements
  temporaries_of is_based (If condition consequence alternative) =
      temporaries_in is_based consequence + temporaries_in_else is_based alternative
  temporaries_of is_based (Allocate items) = based_among is_based items
  temporaries_of is_based body = 0

  -- how many the statements of a list have
  pub temporaries_among : (is_based : (at : ℕ) → Bool) → Statements → ℕ
  temporaries_among is_based Ended = 0
  temporaries_among is_based (Before first more) =
      temporaries_in is_based first + temporaries_among is_based more

  -- how many an ELSE has
  pub temporaries_in_else : (is_based : (at : ℕ) → Bool) → Alternative → ℕ
  temporaries_in_else is_based NoElse = 0
  temporaries_in_else is_based (Else statement) = temporaries_in is_based statement

-- the next block of a unit, and the next temporary of the block here
pub record Next : Type 0 where
  pub block : ℕ
  pub temporary : ℕ

-- after a statement
abbrev pub next_after : (is_based : (at : ℕ) → Bool) → Next → Statement → Next
next_after is_based x s =
    record { block = x.block + blocks_in s; temporary = x.temporary + temporaries_in is_based s }
