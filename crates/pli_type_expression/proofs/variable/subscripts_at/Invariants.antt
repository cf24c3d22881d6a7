use Rattle.std.proofs.Common.{◌≡◌, map}
use Rattle.std.specs.Iterator.Adapters.{zip_first, zip_second}
use Rattle.std.specs.Slice.Iter.{iter_rest}
use Rattle.std.specs.Vec.Iter.{into_iter_items}
use Rattle.pli_type_rules.specs.References.{subscripts_at}
use Rattle.pli_type_tree.specs.views.TypedView.{expression_view, stride_view}
use Rattle.pli_type_expression.proofs.ReferenceLemmas.{subscripts_before}
use Rattle.pli_type_expression.proofs.variable.subscripts_at.Given as goal

-- the subscripts so far in front of those that are left
abbrev pub invariant-loop-stride : goal.invariant-loop-stride
invariant-loop-stride l =
    subscripts_before l.placed.items
    (subscripts_at (map stride_view (iter_rest (zip_first l.stride-iterator))) (map expression_view (into_iter_items (zip_second l.stride-iterator))))
    ≡ subscripts_at (map stride_view l.strides) (map expression_view l.fn.values.items)
