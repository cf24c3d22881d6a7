use Rattle.std.proofs.Common.{◌≡◌, ◌<◌, ◌∷◌, [], Some, None, length, get_or, length-append, sym, ap, ◌∙◌, arith, rules}
use Rattle.std.proofs.lemmas.List.{length-map, get_or_default, get_or-map}
use Rattle.pli_declare_outline.specs.views.OutlineView.{region_view, regions_view}
use Rattle.pli_declare_outline.specs.declared.region.Region.{Region as Written}
use Rattle.pli_declare_outline.specs.declared.region.RegionKind.TheVariants as kinds
use Rattle.pli_declare_constructs.specs.Regions.{innermost, outside}
use Rattle.pli_declare_constructs.proofs.BlocksAround.{told_block, told_other, told, told_all, next_before, next_after, next_none}
use Rattle.pli_declare_constructs.proofs.nesting.blocks_of.Goals as goal
use Rattle.pli_declare_constructs.proofs.nesting.blocks_of.Goals.{then-is_block, else-is_block+in-Some, else-is_block+in_default-2, else-is_block+in_default}

-- what is read where there is no region
abbrev no_region : Written
no_region = record { kind = kinds.Procedure; outer = None; statement = 0 }

pub loop-region-preserved : goal.loop-region-preserved
loop-region-preserved c =
    let regions = c.args.regions.now in
    let rs = regions_view regions in
    let i = c.loop-region.region-index in
    let blocks = c.loop-region.blocks.items in
    let region = region_view (get_or regions i no_region) in
    let is : get_or rs i outside ≡ region = get_or-map region_view regions i no_region outside c.loop-region-test.true in
    let lt : i < length rs = omega (arith, length-map regions region_view, c.loop-region-test.true) in
    let same : c.len-number.result ≡ length blocks = search rules in
    let number : c.len-number.result ≡ i = same ∙ c.loop-region.invariant.count in
    let here : c.if-is_block.block ≡ innermost rs i = elim c.if-is_block.branch [
      | then-is_block w ↦ w.block-is ∙ ap Some number ∙ sym (told_block rs i lt region is (sym c.is_block.ensures ∙ w.if-is_block.true))
      | else-is_block+in-Some w ↦ (let before : w.in-Some.outer < i = omega (arith, number, w.if-outer-number.true) in
          let within : w.in-Some.outer < length blocks = omega (arith, before, c.loop-region.invariant.count) in
          w.block-is ∙ w.index.ensures ∙ get_or_default blocks w.in-Some.outer w.index.result.now None within ∙ c.loop-region.invariant.each w.in-Some.outer before
          ∙ sym (next_before rs i region.outer w.in-Some.outer w.in-Some.is before) ∙ sym (told_other rs i lt region is (sym c.is_block.ensures ∙ w.if-is_block.false)))
      | else-is_block+in_default-2 w ↦ w.block-is ∙ sym (next_after rs i region.outer w.in-Some.outer w.in-Some.is (omega (arith, number, w.if-outer-number.false)))
          ∙ sym (told_other rs i lt region is (sym c.is_block.ensures ∙ w.if-is_block.false))
      | else-is_block+in_default w ↦ w.block-is ∙ sym (next_none rs i region.outer w.in_default.is) ∙ sym (told_other rs i lt region is (sym c.is_block.ensures ∙ w.if-is_block.false))
    ] in
    record {
      count = omega (arith, c.loop-region.invariant.count, ap length c.in_ok-push.ensures.items, length-append blocks (c.if-is_block.block ∷ []));
      each = λ n lt. ap (λ found. get_or found n None) c.in_ok-push.ensures.items
          ∙ told rs blocks c.if-is_block.block i c.loop-region.invariant.count c.loop-region.invariant.each here n lt;
    }

pub returns : goal.returns
returns c =
    let rs = regions_view c.args.regions.now in
    let end : c.loop-region.region-index ≡ length rs = omega (arith, length-map c.args.regions.now region_view, c.loop-region-test.false, c.loop-region.auto.region-index-end) in
    told_all rs c.loop-region.blocks.items (c.loop-region.invariant.count ∙ end) (λ n lt. c.loop-region.invariant.each n (omega (arith, end, lt)))
