-- What the reader of a group's specification answers, by its parts.
use Rattle.std.specs.Prelude.{ℕ, Option, Some, Result, codes}
use Rattle.pli_base.specs.Results.{◌>>=◌}
use Rattle.pli_base.specs.Reading.{Front, read_as}
use Rattle.pli_base.specs.Statements.{Control, Iterate}
use Rattle.pli_base.specs.Syntax.{Expression, Reference}
use Rattle.pli_base.specs.declared.token.Fault.{Fault}
use Rattle.pli_parse_statement.specs.StatementReading.{expression_in, optional_at, parenthesized, range_at}

-- an iteration whose variable and first value were read
abbrev pub limited : (levels : ℕ) → Reference → (equals : ℕ) → Front Expression
    → Result (Front (Option Control)) Fault
limited levels variable equals first = do
  range ← range_at levels first.next first.rest
  condition ← optional_at (codes "WHILE") (parenthesized (expression_in levels)) range.next range.rest
  read_as (Some (Iterate variable equals first.value range.value condition.value)) condition.next
      condition.rest
