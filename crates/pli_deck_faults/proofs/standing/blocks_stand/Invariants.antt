use Rattle.std.proofs.Common.{◌≡◌, drop, map}
use Rattle.std.specs.List.{list_all}
use Rattle.pli_deck_write.specs.DeckFaults.{is_there, named_by_block}
use Rattle.pli_code.specs.views.CodeView.{block_view, code_view}
use Rattle.pli_deck_faults.proofs.standing.blocks_stand.Given as goal

-- what is left passes as all pass
abbrev pub invariant-loop-block : goal.invariant-loop-block
invariant-loop-block l =
    list_all (λ x. list_all (is_there (code_view l.code)) (named_by_block x)) (map block_view (drop l.block-index l.blocks))
    ≡ list_all (λ x. list_all (is_there (code_view l.code)) (named_by_block x)) (map block_view l.blocks)
