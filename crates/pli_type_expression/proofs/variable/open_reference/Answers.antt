use Rattle.std.proofs.Common.{◌≡◌, ◌<◌, length, map, ap, ◌∙◌, arith}
use Rattle.std.proofs.lemmas.List.{length-map}
use Rattle.pli_type.proofs.TypedTrees.{operands_all}
use Rattle.pli_type_names.proofs.TreeLemmas.{some_items}
use Rattle.pli_type_tree.specs.TypedTree.{ElementOf}
use Rattle.pli_type_tree.specs.laws.TypedTreeLaws.{element_made}
use Rattle.pli_type_tree.specs.views.TypedView.{expression_view, operands_view, root_view}
use Rattle.pli_type_expression.proofs.OpenLemmas.{element_referred}
use Rattle.pli_type_expression.proofs.variable.open_reference.Goals as goal

pub returns : goal.returns
returns c =
    let xs = c.args.subscripts.items in
    let root = root_view c.args.root.value in
    let some : 0 < length xs = some_items c.args.subscripts c.is_empty.result c.is_empty.ensures c.if-is_empty.false in
    element_made c.into_inner-2.result c.args.subscripts
    ∙ ap (λ r. ElementOf (root_view r) (operands_view xs)) c.into_inner-2.ensures
    ∙ ap (ElementOf root) (operands_all xs)
    ∙ element_referred root (map expression_view xs) (omega (arith, some, length-map xs expression_view))
