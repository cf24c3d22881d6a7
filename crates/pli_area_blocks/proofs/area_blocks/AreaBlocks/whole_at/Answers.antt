use Rattle.std.proofs.Common.{◌<◌, Bor, length, Some, option_map, sym, ap, ◌∙◌, arith}
use Rattle.std.proofs.lemmas.List.{length-map}
use Rattle.pli_area.specs.Areas as area
use Rattle.pli_area.specs.views.FoundView.{of_block}
use Rattle.pli_map.specs.declared.description.Description.{Description as CodeDescription}
use Rattle.pli_map.specs.views.DescriptionView.{description_view}
use Rattle.pli_world.specs.Storage.{Block}
use Rattle.pli_area_blocks.specs.views.BlocksView.{block_view, described, wholes}
use Rattle.pli_area_blocks.proofs.GrownDescriptions.{described_read}
use Rattle.pli_area_blocks.proofs.Options.{unmapped_nothing, unmapped_one}
use Rattle.pli_area_blocks.proofs.ViewedBlocks.{block_at_view, known_at}
use Rattle.pli_area_blocks.proofs.area_blocks.AreaBlocks.whole_at.Goals as goal

pub returns-in_err-block : goal.returns-in_err-block
returns-in_err-block c =
    let self = c.args.self.now in
    let ds = wholes self.descriptions.items in
    let none = unmapped_nothing of_block (area.block_at self.area.blocks c.args.position) c.in_err-block.ensures.block in
    ap (option_map (λ (d : Bor CodeDescription). description_view d.now)) c.from_residual.ensures
    ∙ sym (ap (option_map (λ (b : Block). b.description)) (block_at_view ds self.area.blocks c.args.position ∙ ap (option_map (block_view ds)) none))

pub index-requires : goal.index-requires
index-requires c =
    let self = c.args.self.now in
    let ds = wholes self.descriptions.items in
    let found = unmapped_one of_block (area.block_at self.area.blocks c.args.position) (c.in_ok-block.block.description, c.in_ok-block.block.size) c.in_ok-block.ensures.block in
    let known = known_at ds self.area.blocks c.args.position found.0 self.known found.1 in
    let there = known.0 in
    let number = ap (λ x. x.0) found.2 in
    let count = length-map self.descriptions.items (λ (d : Bor CodeDescription). description_view d.now) in
    let owned = self.descriptions.ok.0 in
    omega (arith, there, number, count, owned)

pub returns : goal.returns
returns c =
    let self = c.args.self.now in
    let ds = wholes self.descriptions.items in
    let found = unmapped_one of_block (area.block_at self.area.blocks c.args.position) (c.in_ok-block.block.description, c.in_ok-block.block.size) c.in_ok-block.ensures.block in
    let known = known_at ds self.area.blocks c.args.position found.0 self.known found.1 in
    let there = known.0 in
    let number = ap (λ x. x.0) found.2 in
    let count = length-map self.descriptions.items (λ (d : Bor CodeDescription). description_view d.now) in
    let inside : c.in_ok-block.block.description < length self.descriptions.items = omega (arith, there, number, count) in
    ap (λ (r : Bor CodeDescription). Some (description_view r.now)) c.index.ensures
    ∙ ap Some (sym (described_read self.descriptions.items c.in_ok-block.block.description c.index.result.now inside))
    ∙ ap (λ k. Some (described ds k)) (sym number)
    ∙ sym (ap (option_map (λ (b : Block). b.description)) (block_at_view ds self.area.blocks c.args.position ∙ ap (option_map (block_view ds)) found.1))
