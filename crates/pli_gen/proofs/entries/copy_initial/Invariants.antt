use Rattle.std.proofs.Common.{◌≡◌, ◌++◌, map, drop}
use Rattle.pli_type_tree.specs.views.TemplateView.{initial_view}
use Rattle.pli_gen.proofs.entries.copy_initial.Given as goal

abbrev pub invariant-loop-initial : goal.invariant-loop-initial
invariant-loop-initial l = map initial_view l.copied.items ++ map initial_view (drop l.initial-index l.scalars) ≡ map initial_view l.scalars
