-- How large statements are, as far as they nest.
use Rattle.std.proofs.Common.{◌≡◌, ℕ, zero, suc, ◌+◌, ◌<◌, List, [], ◌∷◌, length, get_or, ap, arith}
use Rattle.pli_base.specs.Statements as tree
use Rattle.pli_base.specs.Statements.{Statement, Numbered, Body, Alternative, Statements, Ended, Before}
use Rattle.pli_base.specs.declared.statement.Statement as program
use Rattle.pli_base.specs.views.StatementView.{statement_view, statements_view}

abbrev mutual
  pub statement_size : Statement → ℕ
  statement_size (Numbered number label at body) = 1 + body_size body

  pub body_size : Body → ℕ
  body_size (tree.Procedure heading statements end) = 2 + list_size statements
  body_size (tree.Begin statements end) = 2 + list_size statements
  body_size (tree.Do control statements end) = 2 + list_size statements
  body_size (tree.If condition consequence alternative) = 1 + (statement_size consequence + alternative_size alternative)
  body_size (tree.On condition unit) = 3 + statement_size unit
  body_size other = 0

  pub list_size : Statements → ℕ
  list_size Ended = 0
  list_size (Before first more) = 1 + (statement_size first + list_size more)

  pub alternative_size : Alternative → ℕ
  alternative_size tree.NoElse = 0
  alternative_size (tree.Else statement) = statement_size statement

-- a statement in a list
pub item_size : (ss : List program.Statement) (i : ℕ) (s : program.Statement) → i < length ss → s ≡ get_or ss i s
    → statement_size (statement_view s) < list_size (statements_view ss)
item_size [] i s within is = absurd (omega arith)
item_size (t ∷ ts) zero s within is = omega (arith, ap (λ s. statement_size (statement_view s)) is)
item_size (t ∷ ts) (suc i) s within is = omega (arith, item_size ts i s (omega arith) is)
