use Rattle.std.proofs.Common.{[], arith, refl}
use Rattle.std.specs.List.{flat_map}
use Rattle.std.proofs.lemmas.List.Concat.{flat_map-append}
use Rattle.pli_type_tree.specs.views.GlobalView.{global_group_view, globals_view}
use Rattle.pli_gen_emit.specs.Encoding.{global_descriptions, global_templates}
use Rattle.pli_gen_emit.proofs.NumberingLemmas.{numbering_next}
use Rattle.pli_gen_emit.proofs.table.number_globals.Goals as goal

pub loop-group-preserved : goal.loop-group-preserved
loop-group-preserved c =
    numbering_next (λ gs. flat_map global_descriptions (globals_view gs)) (λ gs. flat_map global_templates (globals_view gs)) (λ gs. [])
    (λ g. flat_map global_descriptions (global_group_view g)) (λ g. flat_map global_templates (global_group_view g)) (λ g. [])
    (λ g gs. flat_map-append global_descriptions (global_group_view g) (globals_view gs)) (λ g gs. flat_map-append global_templates (global_group_view g) (globals_view gs)) (λ g gs. refl)
    c.args.tables.now c.loop-group.tables c.number_global_group.new.tables c.args.groups.now c.loop-group.group-index c.group-item.result (omega arith) c.group-item.is
    c.number_global_group.ensures c.loop-group.invariant
