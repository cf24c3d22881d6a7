-- The blocks of a source tree, by a walk over it (own). A PROCEDURE, a BEGIN and an ON begin one block each;
-- a group begins none. Blocks are numbered in the order in which they begin in the text.
use Rattle.std.specs.Prelude.{ℕ, suc, ◌+◌, Option, Some, None, List, [], ◌∷◌, ◌++◌, length}
use Rattle.pli_base.specs.Statements.{Statement, Numbered, Body, Procedure, Begin, Do, If, On}
use Rattle.pli_base.specs.Statements.{Statements, Ended, Before, Alternative, NoElse, Else, ExternalProcedure}
use Rattle.pli_declare.specs.declared.block_numbers.ResolvedBlockKind.{ResolvedBlockKind}
use Rattle.pli_declare.specs.declared.block_numbers.ResolvedBlockKind.TheVariants as kinds
pub use Rattle.pli_declare.specs.BlockCounts.{blocks_among, blocks_in_else, blocks_in, blocks_of}

-- a block: what it is; the number of the block round it; the number of its statement; how many parameters its
-- PROCEDURE has
pub record TreeBlock : Type 0 where
  pub kind : ResolvedBlockKind
  pub outer : Option ℕ
  pub statement : ℕ
  pub parameters : ℕ

-- a block inside another
abbrev pub inner_block : ResolvedBlockKind → (outer statement parameters : ℕ) → TreeBlock
inner_block kind outer statement parameters =
    record { kind = kind; outer = Some outer; statement = statement; parameters = parameters }

-- the blocks that begin in a statement of the block outer, each before those inside it; the first of them has
-- the number next
abbrev mutual
  pub statement_blocks : (outer next : ℕ) → Statement → List TreeBlock
  statement_blocks outer next (Numbered number label at body) = body_blocks outer next number body

  -- the blocks of what a statement is: itself, if it is one, and then those inside it
  pub body_blocks : (outer next : ℕ) → (statement : ℕ) → Body → List TreeBlock
  body_blocks outer next statement (Procedure heading statements end) =
      inner_block kinds.Procedure outer statement (length heading.parameters)
      ∷ statements_blocks next (suc next) statements
  body_blocks outer next statement (Begin statements end) =
      inner_block kinds.Begin outer statement 0 ∷ statements_blocks next (suc next) statements
  body_blocks outer next statement (Do control statements end) = statements_blocks outer next statements
  body_blocks outer next statement (If condition consequence alternative) =
      statement_blocks outer next consequence
      ++ alternative_blocks outer (next + blocks_in consequence) alternative
  body_blocks outer next statement (On condition unit) =
      inner_block kinds.OnUnit outer statement 0 ∷ statement_blocks next (suc next) unit
  body_blocks outer next statement body = []

  -- the blocks of each statement of a list, numbered on
  pub statements_blocks : (outer next : ℕ) → Statements → List TreeBlock
  statements_blocks outer next Ended = []
  statements_blocks outer next (Before first more) =
      statement_blocks outer next first ++ statements_blocks outer (next + blocks_in first) more

  -- the blocks of an ELSE
  pub alternative_blocks : (outer next : ℕ) → Alternative → List TreeBlock
  alternative_blocks outer next NoElse = []
  alternative_blocks outer next (Else statement) = statement_blocks outer next statement

-- the blocks of a unit, each under its number; the external procedure is block 0
abbrev pub unit_blocks : ExternalProcedure → List TreeBlock
unit_blocks u =
    record {
      kind = kinds.Procedure;
      outer = None;
      statement = u.heading.number;
      parameters = length u.heading.parameters;
    } ∷ statements_blocks 0 1 u.statements
