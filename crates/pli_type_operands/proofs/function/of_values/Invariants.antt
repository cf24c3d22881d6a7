use Rattle.std.proofs.Common.{◌≡◌, ◌++◌, map}
use Rattle.std.specs.Vec.Iter.{into_iter_items}
use Rattle.pli_type.specs.views.ValueView.{value_view}
use Rattle.pli_type_tree.specs.views.TypedView.{expression_view}
use Rattle.pli_type_operands.proofs.function.of_values.Given as goal

-- types and operands so far, and those of the values that are left
abbrev pub invariant-loop-value : goal.invariant-loop-value
invariant-loop-value l =
    let left = map value_view (into_iter_items l.value-iterator) in
    let all = map value_view l.fn.values.items in
    record {
      kinds : l.kinds.items ++ map (λ v. v.kind) left ≡ map (λ v. v.kind) all;
      operands : map expression_view l.operands.items ++ map (λ v. v.expression) left ≡ map (λ v. v.expression) all;
    }
