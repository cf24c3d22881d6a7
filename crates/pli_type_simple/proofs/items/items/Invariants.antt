use Rattle.std.proofs.Common.{◌≡◌, map, drop}
use Rattle.pli_base.specs.views.SyntaxView as syntax
use Rattle.pli_type_rules.specs.TypingSteps.{items}
use Rattle.pli_type_names.specs.UnitNaming.{naming_in}
use Rattle.pli_type_tree.specs.views.TypedView.{expression_view}
use Rattle.pli_type_simple.proofs.ItemLists.{after}
use Rattle.pli_type_simple.proofs.items.items.Given as goal

-- the items so far in front of those that are left
abbrev pub invariant-loop-expression : goal.invariant-loop-expression
invariant-loop-expression l =
    after (map expression_view l.items.items) (items (naming_in l.naming) (map syntax.expression_view (drop l.expression-index l.expressions)))
    ≡ items (naming_in l.naming) (map syntax.expression_view l.expressions)
