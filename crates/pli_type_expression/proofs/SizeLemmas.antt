-- How large expressions and references are: the walk over them goes down in it.
use Rattle.std.proofs.Common.{◌≡◌, ℕ, zero, suc, ◌+◌, ◌<◌, ◌≤◌, List, [], ◌∷◌, length, get_or, ap, arith}
use Rattle.pli_base.specs.Syntax.{Expression, Referred, Constant, Parenthesized, Prefix, Infix, Reference, Named}
use Rattle.pli_base.specs.Syntax.{JoinedParts, Alone, Joined, Arguments, Absent, Given, Expressions, Empty, Listed}
use Rattle.pli_base.specs.declared.syntax.Expression as program
use Rattle.pli_base.specs.declared.syntax.JoinedPart as part
use Rattle.pli_base.specs.views.SyntaxView.{expression_view, expressions_view, joined_view, arguments_view}

abbrev mutual
  pub expression_size : Expression → ℕ
  expression_size (Referred reference) = 1 + reference_size reference
  expression_size (Constant at value) = 1
  expression_size (Parenthesized at inner) = 3 + expression_size inner
  expression_size (Prefix operator at operand) = 4 + expression_size operand
  expression_size (Infix operator at left right) = 4 + expression_size left + expression_size right

  pub reference_size : Reference → ℕ
  reference_size (Named name arguments more) = 5 + arguments_size arguments + parts_size more

  pub parts_size : JoinedParts → ℕ
  parts_size Alone = 0
  parts_size (Joined joining name arguments more) = 5 + arguments_size arguments + parts_size more

  pub arguments_size : Arguments → ℕ
  arguments_size Absent = 0
  arguments_size (Given list) = 4 + list_size list

  pub list_size : Expressions → ℕ
  list_size Empty = 0
  list_size (Listed first more) = 2 + expression_size first + list_size more

-- an expression in a list, and a part among those joined
pub item_size : (xs : List program.Expression) (i : ℕ) (x : program.Expression) → i < length xs
    → x ≡ get_or xs i x → 1 + expression_size (expression_view x) < list_size (expressions_view xs)
item_size [] i x within is = absurd (omega arith)
item_size (e ∷ es) zero x within is = omega (arith, ap (λ e. expression_size (expression_view e)) is)
item_size (e ∷ es) (suc i) x within is = omega (arith, item_size es i x (omega arith) is)

pub part_size : (xs : List part.JoinedPart) (i : ℕ) (x : part.JoinedPart) → i < length xs → x ≡ get_or xs i x
    → 5 + arguments_size (arguments_view x.part.arguments) ≤ parts_size (joined_view xs)
part_size [] i x within is = absurd (omega arith)
part_size (p ∷ ps) zero x within is =
    omega (arith, ap (λ (p : part.JoinedPart). arguments_size (arguments_view p.part.arguments)) is)
part_size (p ∷ ps) (suc i) x within is = omega (arith, part_size ps i x (omega arith) is)
