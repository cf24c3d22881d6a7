use Rattle.std.proofs.Common.{map, drop, []}
use Rattle.pli_map.specs.ParameterTypes.{Stated}
use Rattle.pli_type_tree.specs.views.TemplateView.{groups_view}
use Rattle.pli_gen_emit.proofs.NumberingLemmas.{IsNumbering}
use Rattle.pli_gen_emit.proofs.table.number_variables.Given as goal

abbrev pub invariant-loop-group : goal.invariant-loop-group
invariant-loop-group l =
    let left = groups_view (drop l.group-index l.groups) in
    let all = groups_view l.groups in
    IsNumbering l.initial.tables l.tables (map (λ t. Stated t.description) left) left [] (map (λ t. Stated t.description) all) all []
