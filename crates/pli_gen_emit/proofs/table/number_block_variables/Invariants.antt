use Rattle.std.proofs.Common.{map, drop, []}
use Rattle.std.specs.List.{flat_map}
use Rattle.pli_map.specs.ParameterTypes.{Stated}
use Rattle.pli_gen_emit.specs.views.BlockView.{block_trees}
use Rattle.pli_gen_emit.proofs.NumberingLemmas.{IsNumbering}
use Rattle.pli_gen_emit.proofs.table.number_block_variables.Given as goal

abbrev pub invariant-loop-block : goal.invariant-loop-block
invariant-loop-block l =
    let left = flat_map (λ b. b.head.variables) (block_trees (drop l.block-index l.blocks)) in
    let all = flat_map (λ b. b.head.variables) (block_trees l.blocks) in
    IsNumbering l.initial.tables l.tables (map (λ t. Stated t.description) left) left [] (map (λ t. Stated t.description) all) all []
