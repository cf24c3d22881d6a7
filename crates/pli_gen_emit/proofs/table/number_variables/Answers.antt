use Rattle.std.proofs.Common.{[], map, arith, refl}
use Rattle.pli_map.specs.ParameterTypes.{Stated}
use Rattle.pli_type_tree.specs.views.TemplateView.{group_view, groups_view}
use Rattle.pli_gen_emit.proofs.KeyLemmas.{described_apart}
use Rattle.pli_gen_emit.proofs.NumberingLemmas.{numbering_next}
use Rattle.pli_gen_emit.proofs.table.number_variables.Goals as goal

pub loop-group-preserved : goal.loop-group-preserved
loop-group-preserved c =
    numbering_next (λ gs. map (λ t. Stated t.description) (groups_view gs)) groups_view (λ gs. []) (λ g. map (λ t. Stated t.description) (group_view g)) group_view (λ g. [])
    (λ g gs. described_apart (group_view g) (groups_view gs)) (λ g gs. refl) (λ g gs. refl)
    c.args.tables.now c.loop-group.tables c.number_group.new.tables c.args.groups.now c.loop-group.group-index c.group-item.result (omega arith) c.group-item.is
    c.number_group.ensures c.loop-group.invariant
