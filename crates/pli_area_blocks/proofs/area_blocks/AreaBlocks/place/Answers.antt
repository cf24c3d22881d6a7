use Rattle.std.proofs.Common.{◌≡◌, ◌<◌, Bor, length, sym, ap, ◌∙◌, arith}
use Rattle.std.proofs.lemmas.List.{length-map}
use Rattle.pli_bytes.specs.Contents.{values_of}
use Rattle.pli_map.specs.Sizes.{size_of}
use Rattle.pli_map.specs.declared.description.Description.{Description as CodeDescription}
use Rattle.pli_map.specs.views.DescriptionView.{description_view}
use Rattle.pli_area_blocks.specs.answers.Parts.{placed}
use Rattle.pli_area_blocks.specs.views.AreaBlocksView.{blocks_view}
use Rattle.pli_area_blocks.specs.views.BlocksView.{described, wholes}
use Rattle.pli_area_blocks.proofs.GrownDescriptions.{known_grown, view_grown}
use Rattle.pli_area_blocks.proofs.Options.{said_of_err}
use Rattle.pli_area_blocks.proofs.PlacedBlocks.{known_placed, placed_says}
use Rattle.pli_area_blocks.proofs.ViewedBlocks.{fit_view}
use Rattle.pli_area_blocks.proofs.area_blocks.AreaBlocks.place.Goals as goal

pub invariant_of-self : goal.invariant_of-self
invariant_of-self c =
    let self = c.args.self.now in
    record {
      known = known_grown (wholes self.descriptions.items) (wholes c.number_in.new.descriptions.items) c.number_in.ensures.grown self.area.blocks self.known;
    }

pub returns-in_err-number-clause-err : goal.returns-in_err-number-clause-err
returns-in_err-number-clause-err c =
    let self = c.args.self.now in
    said_of_err c.from_residual.result
    (view_grown (wholes self.descriptions.items) (wholes c.number_in.new.descriptions.items) c.number_in.ensures.grown self.area.blocks self.known)

pub invariant_of-self-2 : goal.invariant_of-self-2
invariant_of-self-2 c =
    let self = c.args.self.now in
    let ds = wholes c.number_in.new.descriptions.items in
    let known = known_grown (wholes self.descriptions.items) ds c.number_in.ensures.grown self.area.blocks self.known in
    let there = c.in_ok-number.ensures.there in
    let count = length-map c.number_in.new.descriptions.items (λ (d : Bor CodeDescription). description_view d.now) in
    let inside : c.in_ok-number.number < length ds = omega (arith, there, count) in
    let size : length c.args.bytes.now ≡ size_of (described ds c.in_ok-number.number) =
    c.requires ∙ ap size_of (sym c.in_ok-number.ensures.described) in
    record {
      known = known_placed ds self.area known c.in_ok-number.number c.args.bytes.now inside size c.place_block.result c.place_block.new.area.blocks
          c.place_block.ensures.blocks c.place_block.ensures.unchanged;
    }

pub returns-clause-position : goal.returns-clause-position
returns-clause-position c =
    let self = c.args.self.now in
    c.ok.ensures.value ∙ c.place_block.ensures.place
    ∙ fit_view (wholes self.descriptions.items) self.area.capacity self.area.blocks (length c.args.bytes.now) self.known

pub returns-clause-blocks : goal.returns-clause-blocks
returns-clause-blocks c =
    let self = c.args.self.now in
    let d = description_view c.args.description.now in
    let old = wholes self.descriptions.items in
    let ds = wholes c.number_in.new.descriptions.items in
    let known = known_grown old ds c.number_in.ensures.grown self.area.blocks self.known in
    let there = c.in_ok-number.ensures.there in
    let count = length-map c.number_in.new.descriptions.items (λ (d : Bor CodeDescription). description_view d.now) in
    let inside : c.in_ok-number.number < length ds = omega (arith, there, count) in
    let size : length c.args.bytes.now ≡ size_of (described ds c.in_ok-number.number) =
    c.requires ∙ ap size_of (sym c.in_ok-number.ensures.described) in
    placed_says ds self.area known c.in_ok-number.number c.args.bytes.now inside size d c.in_ok-number.ensures.described c.place_block.result
    c.place_block.new.area.blocks c.place_block.ensures.blocks c.place_block.ensures.unchanged
    ∙ ap (placed _ d (values_of d c.args.bytes.now)) (view_grown old ds c.number_in.ensures.grown self.area.blocks self.known)
    ∙ ap (λ o. placed o d (values_of d c.args.bytes.now) (blocks_view self)) (sym c.ok.ensures.value)
