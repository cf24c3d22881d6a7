use Rattle.std.proofs.Common.{◌≡◌, ◌∷◌, nat_eq, map, drop, ◌+◌, sym, ap, ◌∙◌, arith}
use Rattle.indexmap.specs.IndexMap.{get}
use Rattle.pli_declare.specs.views.BlockView.{block_view}
use Rattle.pli_declare.specs.Symbols.{found_after}
use Rattle.pli_declare.specs.ResolvedUnits as spec
use Rattle.pli_resolve.proofs.LookUps.{found_then}
use Rattle.pli_resolve_unit.proofs.BlockPassed.{drop_next}
use Rattle.pli_resolve_unit.proofs.look_ups.note_blocks.Goals as goal

pub loop-region-preserved : goal.loop-region-preserved
loop-region-preserved c = λ region.
    let n = c.loop-region.region in
    let numbers = c.args.numbers.now in
    let more = map block_view (drop (n + 1) c.args.blocks.now) in
    let same : map block_view (drop n c.args.blocks.now) ≡ block_view c.index-blocks-region.result ∷ more =
    ap (map block_view) (drop_next c.args.blocks.now n c.index-blocks-region.result (omega (arith, c.loop-region-test.true)) c.index-blocks-region.is) in
    ap (λ o. found_after o (spec.procedures_of numbers (n + 1) more) region) (c.in_ok-note_block.ensures region)
    ∙ sym (found_then (get nat_eq c.loop-region.procedures region) (spec.block_procedures numbers n (block_view c.index-blocks-region.result)) (spec.procedures_of numbers (n + 1) more) region)
    ∙ sym (ap (λ bs. found_after (get nat_eq c.loop-region.procedures region) (spec.procedures_of numbers n bs) region) same)
    ∙ c.loop-region.invariant region
