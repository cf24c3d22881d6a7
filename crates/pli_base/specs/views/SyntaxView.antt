-- What a tree of an expression says, apart from where it lies in memory.
use Rattle.std.specs.Prelude.{List, [], ◌∷◌, Option, Some, None, Vec}
use Rattle.std.specs.Global.{Global}
use Rattle.pli_base.specs.Syntax.{Referred, Named, JoinedParts, Alone, Joined, Arguments, Absent, Given}
use Rattle.pli_base.specs.Syntax.{Expressions, Empty, Listed}
use Rattle.pli_base.specs.Syntax as tree
use Rattle.pli_base.specs.declared.syntax.Expression.{Expression, Reference, Constant, Parenthesized'}
use Rattle.pli_base.specs.declared.syntax.Expression.{Prefix', Infix'}
use Rattle.pli_base.specs.declared.syntax.Expression.TheBlock.{struct-Reference, Row_of-JoinedPart}
use Rattle.pli_base.specs.declared.syntax.Expression.TheBlock.{end_of-JoinedPart, more_of-JoinedPart}
use Rattle.pli_base.specs.declared.syntax.Expression.TheBlock.{Row_of-Expression, end_of-Expression}
use Rattle.pli_base.specs.declared.syntax.Expression.TheBlock.{more_of-Expression}
use Rattle.pli_base.specs.declared.syntax.JoinedPart.{JoinedPart}
use Rattle.pli_base.specs.declared.syntax.Part.{None', Some'}
use Rattle.pli_base.specs.declared.syntax.Reference as reference

abbrev mutual
  -- an expression
  pub expression_view : Expression → tree.Expression
  expression_view (Reference r) = tree.Referred (reference_view r)
  expression_view (Constant at value) = tree.Constant at value
  expression_view (Parenthesized' at p inner) = tree.Parenthesized at (expression_view inner)
  expression_view (Prefix' operator at p operand) = tree.Prefix operator at (expression_view operand)
  expression_view (Infix' operator at p left q right) =
      tree.Infix operator at (expression_view left) (expression_view right)

  -- a reference
  pub reference_view : reference.Reference → tree.Reference
  reference_view (struct-Reference name None' shape joined) = Named name Absent (joined_row joined)
  reference_view (struct-Reference name (Some' s row) shape joined) =
      Named name (Given (expression_row row)) (joined_row joined)

  -- parts of a reference as they lie in a list
  pub joined_row : {m : _} → Row_of-JoinedPart m → JoinedParts
  joined_row end_of-JoinedPart = Alone
  joined_row (more_of-JoinedPart joining name None' more) = Joined joining name Absent (joined_row more)
  joined_row (more_of-JoinedPart joining name (Some' s row) more) =
      Joined joining name (Given (expression_row row)) (joined_row more)

  -- expressions as they lie in a list
  pub expression_row : {m : _} → Row_of-Expression m → Expressions
  expression_row end_of-Expression = Empty
  expression_row (more_of-Expression e more) = Listed (expression_view e) (expression_row more)

-- lists of parts and expressions, as they stand in vectors
abbrev pub expressions_view : List Expression → Expressions
expressions_view [] = Empty
expressions_view (e ∷ es) = Listed (expression_view e) (expressions_view es)

-- what stands in parentheses after a name, if they are there
abbrev pub arguments_view : Option (Vec Expression Global) → Arguments
arguments_view None = Absent
arguments_view (Some list) = Given (expressions_view list.items)

-- a list of the parts that are joined to a reference
abbrev pub joined_view : List JoinedPart → JoinedParts
joined_view [] = Alone
joined_view (x ∷ xs) = Joined x.joining x.part.name (arguments_view x.part.arguments) (joined_view xs)
