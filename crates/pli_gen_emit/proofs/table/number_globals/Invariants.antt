use Rattle.std.proofs.Common.{drop, []}
use Rattle.std.specs.List.{flat_map}
use Rattle.pli_type_tree.specs.views.GlobalView.{globals_view}
use Rattle.pli_gen_emit.specs.Encoding.{global_descriptions, global_templates}
use Rattle.pli_gen_emit.proofs.NumberingLemmas.{IsNumbering}
use Rattle.pli_gen_emit.proofs.table.number_globals.Given as goal

abbrev pub invariant-loop-group : goal.invariant-loop-group
invariant-loop-group l =
    let left = globals_view (drop l.group-index l.groups) in
    let all = globals_view l.groups in
    IsNumbering l.initial.tables l.tables (flat_map global_descriptions left) (flat_map global_templates left) []
    (flat_map global_descriptions all) (flat_map global_templates all) []
