use Rattle.std.proofs.Common.{◌≡◌, map, drop}
use Rattle.pli_type_tree.specs.views.TemplateView.{initial_view}
use Rattle.pli_type_keys.specs.answers.Digests.{digest_of_initial}
use Rattle.pli_type_keys.proofs.digest.digest_of_initial.Given as goal

abbrev pub invariant-loop-first : goal.invariant-loop-first
invariant-loop-first l = digest_of_initial l.whole (map initial_view (drop l.first-index l.scalars)) ≡ digest_of_initial l.initial.whole (map initial_view l.scalars)
