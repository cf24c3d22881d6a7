use Rattle.std.proofs.Common.{Box, Global, refl}
use Rattle.pli_base.specs.views.SyntaxView as syntax
use Rattle.pli_type_rules.specs.StatementTyping as spec
use Rattle.pli_type_tree.specs.declared.expression.TypedExpression.{TypedExpression}
use Rattle.pli_type_tree.specs.views.TypedView.{expression_view}
use Rattle.pli_type_walk.proofs.WalkLemmas.{own_walked}
use Rattle.pli_type_statement.proofs.statement.type_condition.Goals as goal

pub returns : goal.returns
returns c =
    own_walked c.args.walk.now _ (λ (x : Box TypedExpression Global). expression_view x.value) (λ n. spec.condition n (syntax.expression_view c.args.expression.now)) c.condition-tested.result c.noted.result _
    c.requires c.condition-tested.ensures c.noted.ensures.part c.noted.ensures.faults c.noted.ensures.known
    (record { naming = refl; around = refl; globals = refl; placed = record { blocks = c.requires.blocks; templates = c.requires.templates; based = c.requires.based; deep = c.requires.deep } })
    refl refl
