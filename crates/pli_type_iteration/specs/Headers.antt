-- What controls a group, apart from its list.
use Rattle.std.specs.Prelude.{ℕ, Option, Some, None, Result, Ok}
use Rattle.pli_base.specs.Results.{◌>>=◌}
use Rattle.pli_base.specs.Statements as tree
use Rattle.pli_base.specs.Statements.{Control}
use Rattle.pli_base.specs.declared.token.Fault.{Fault}
use Rattle.pli_type_rules.specs.Names.{Naming}
use Rattle.pli_type_rules.specs.StatementTyping.{condition, iteration}
use Rattle.pli_type_tree.specs.TypedTree as typed
use Rattle.pli_type_tree.specs.TypedTree.{Form, Iteration, TypedExpression, TypedStatements}

-- nothing, WHILE, or a control variable
pub data Header : Type 0 where
  Plain : Header
  While : (condition : TypedExpression) → Header
  Iterate : (iteration : Iteration) → Header

-- what stands between DO and `;`, or its first fault
abbrev pub header_typed : Naming → (temporary : ℕ) → Option Control → Result Header Fault
header_typed n temporary None = Ok Plain
header_typed n temporary (Some (tree.While tested)) = do
  x ← condition n tested
  Ok (While x)
header_typed n temporary (Some (tree.Iterate variable equals first range tested)) = do
  i ← iteration n temporary variable equals first range tested
  Ok (Iterate i)

-- the group
abbrev pub group_of : Header → TypedStatements → Form
group_of Plain list = typed.Group list
group_of (While x) list = typed.While x list
group_of (Iterate i) list = typed.Iterate i list
