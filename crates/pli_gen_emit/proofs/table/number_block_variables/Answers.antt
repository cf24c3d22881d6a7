use Rattle.std.proofs.Common.{[], List, map, arith, refl, subst}
use Rattle.std.specs.List.{flat_map}
use Rattle.pli_map.specs.ParameterTypes.{Stated}
use Rattle.pli_type_tree.specs.Templates.{Template}
use Rattle.pli_type_tree.specs.views.TemplateView.{groups_view}
use Rattle.pli_gen_emit.specs.declared.block.BlockSource.{BlockSource}
use Rattle.pli_gen_emit.specs.views.BlockView.{block_trees}
use Rattle.pli_gen_emit.specs.answers.Numbering.{Numbers}
use Rattle.pli_gen_emit.proofs.KeyLemmas.{described_apart}
use Rattle.pli_gen_emit.proofs.NumberingLemmas.{numbering_next}
use Rattle.pli_gen_emit.proofs.table.number_block_variables.Goals as goal

abbrev one : BlockSource → List Template
one b = groups_view b.head.now.variables.items

abbrev all : List BlockSource → List Template
all bs = flat_map (λ b. b.head.variables) (block_trees bs)

pub loop-block-preserved : goal.loop-block-preserved
loop-block-preserved c =
    let now = c.loop-block.tables in
    let new = c.number_variables.new.tables in
    numbering_next (λ bs. map (λ t. Stated t.description) (all bs)) all (λ bs. []) (λ b. map (λ t. Stated t.description) (one b)) one (λ b. [])
    (λ b bs. described_apart (one b) (all bs)) (λ b bs. refl) (λ b bs. refl)
    c.args.tables.now now new c.args.blocks.now c.loop-block.block-index c.block-item.result (omega arith) c.block-item.is
    (subst (λ gs. Numbers now new (map (λ t. Stated t.description) (groups_view gs)) (groups_view gs) []) c.as_slice.ensures.value c.number_variables.ensures) c.loop-block.invariant
