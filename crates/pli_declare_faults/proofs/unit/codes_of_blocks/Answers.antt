use Rattle.std.proofs.Common.{◌≡◌, ◌∷◌, ◌+◌, [], length, map, sym, ap, ◌∙◌, arith}
use Rattle.std.proofs.lemmas.List.{map-append, length-map}
use Rattle.pli_declare_outline.specs.views.OutlineView.{outline_view, region_view}
use Rattle.pli_declare_faults.specs.answers.Walks.{block_codes, block_goodness}
use Rattle.pli_declare.proofs.ListsByNumber.{seen_length, seen_at}
use Rattle.pli_declare_faults.proofs.NumberLists.{one_more}
use Rattle.pli_declare_faults.proofs.unit.codes_of_blocks.Goals as goal

pub index-requires : goal.index-requires
index-requires c =
    let o = outline_view c.args.known.now.scopes.outline.now in
    let count : length c.args.known.now.scopes.outline.now.regions.items ≡ length o.regions = sym (length-map c.args.known.now.scopes.outline.now.regions.items region_view) in
    omega (arith, count, c.loop-block-test.true, c.len-block-end.ensures, seen_length (λ v. v.items) (block_goodness o) c.args.good.now.items (length o.regions + 1) c.requires)

pub codes_of_block-requires-clause-good : goal.codes_of_block-requires-clause-good
codes_of_block-requires-clause-good c =
    let o = outline_view c.args.known.now.scopes.outline.now in
    let count : length c.args.known.now.scopes.outline.now.regions.items ≡ length o.regions = sym (length-map c.args.known.now.scopes.outline.now.regions.items region_view) in
    let found = c.index.result.now in
    c.deref.ensures.value ∙ ap (λ v. v.items) c.index.ensures
    ∙ seen_at (λ v. v.items) (block_goodness o) c.args.good.now.items (length o.regions + 1) c.loop-block.block found c.requires (omega (arith, count, c.loop-block-test.true, c.len-block-end.ensures))

pub loop-block-preserved : goal.loop-block-preserved
loop-block-preserved c =
    ap (map (λ list. list.items)) c.in_ok-push.ensures.items ∙ map-append (λ list. list.items) c.loop-block.codes.items (c.in_ok-codes_of_block.field-0 ∷ [])
    ∙ one_more (block_codes (outline_view c.args.known.now.scopes.outline.now)) c.loop-block.block (map (λ list. list.items) c.loop-block.codes.items)
    c.in_ok-codes_of_block.field-0.items c.loop-block.invariant c.in_ok-codes_of_block.ensures
