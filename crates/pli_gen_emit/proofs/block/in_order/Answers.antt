use Rattle.std.proofs.Common.{◌≡◌, [], replicate, map, length, take, arith, ap, ◌∙◌, sym, filter}
use Rattle.std.specs.List.{flat_map, range_with_len}
use Rattle.std.proofs.lemmas.List.{length-map, take_all}
use Rattle.std.proofs.lemmas.Result.{IfOk-weaker}
use Rattle.pli_gen_emit.specs.TreeTranslation.{has_number}
use Rattle.pli_gen_emit.specs.views.BlockView.{block_tree, block_trees}
use Rattle.pli_gen_emit.proofs.BlockLemmas.{lists, none_listed, block_put, all_flat}
use Rattle.pli_gen_emit.proofs.block.in_order.Goals as goal

pub loop-block-init : goal.loop-block-init
loop-block-init c =
    let blocks = c.args.blocks.now in
    c.in_ok-lists.ensures ∙ ap (λ n. replicate n []) (sym (length-map blocks block_tree)) ∙ none_listed 0 (length (block_trees blocks))

pub loop-block-preserved : goal.loop-block-preserved
loop-block-preserved c =
    block_put c.args.blocks.now c.loop-block.block-index c.block-item.result _ _ (omega arith) c.block-item.is c.loop-block.invariant c.in_ok-put_by_number.ensures

pub returns : goal.returns
returns c =
    let trees = block_trees c.args.blocks.now in
    let i = c.loop-block.block-index in
    let n = length trees in
    let whole : take i trees ≡ trees = take_all i trees (omega (arith, length-map c.args.blocks.now block_tree)) in
    IfOk-weaker c.flattened.result _ _
    (λ made e. e ∙ ap (flat_map (λ xs. xs)) (ap (map (λ list. block_trees list.items)) c.as_slice.ensures.value ∙ c.loop-block.invariant ∙ ap (lists 0 n) whole)
    ∙ all_flat (λ n. filter (has_number n) trees) (range_with_len 0 n))
    c.flattened.ensures
