use Rattle.std.proofs.Common.{◌≡◌, map, drop, length}
use Rattle.std.specs.Cmp.Lexicographic.{pointwise}
use Rattle.pli_type_tree.specs.views.TemplateView.{initial_view}
use Rattle.pli_type_keys.specs.Same.{same_initial}
use Rattle.pli_type_keys.proofs.key.are_same_initial.Given as goal

abbrev pub invariant-loop-i : goal.invariant-loop-i
invariant-loop-i l =
    (pointwise same_initial (map initial_view (drop l.i l.left)) (map initial_view (drop l.i l.right))
    ≡ pointwise same_initial (map initial_view l.left) (map initial_view l.right)) × (length l.left ≡ length l.right)
