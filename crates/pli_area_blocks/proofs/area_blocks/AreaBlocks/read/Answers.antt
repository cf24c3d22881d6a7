use Rattle.std.proofs.Common.{◌≡◌, length, sym, ap, ◌∙◌, subst, arith}
use Rattle.std.proofs.lemmas.List.{with_items_is}
use Rattle.pli_area.specs.Areas.{HasBytes, bytes_at}
use Rattle.pli_bytes.specs.Contents.{values_of}
use Rattle.pli_map.specs.Sizes.{size_of}
use Rattle.pli_map.specs.views.DescriptionView.{description_view}
use Rattle.pli_area_blocks.specs.answers.Parts.{PartHolds}
use Rattle.pli_area_blocks.specs.views.AreaBlocksView.{blocks_view}
use Rattle.pli_area_blocks.specs.views.BlocksView.{wholes}
use Rattle.pli_area_blocks.proofs.BlockParts.{part_held, part_small, part_there}
use Rattle.pli_area_blocks.proofs.area_blocks.AreaBlocks.read.Goals as goal

pub read-requires : goal.read-requires
read-requires c =
    let self = c.args.self.now in
    let d = description_view c.args.part.now in
    let small = part_small (wholes self.descriptions.items) self.area self.known c.args.position c.args.offset d c.requires c.stands.ensures in
    let size = c.far_size-size.ensures in
    let count = c.in_ok-bytes.ensures.len in
    let lent = ap length c.deref_mut.ensures.value in
    let owned = c.in_ok-bytes.bytes.ok.0 in
    let counted : length c.deref_mut.result.now ≡ size_of d = omega (arith, small, size, count, lent, owned) in
    subst (HasBytes self.area.blocks c.args.position c.args.offset) (sym counted)
    (part_there (wholes self.descriptions.items) self.area self.known c.args.position c.args.offset d c.requires)

pub returns-clause-size : goal.returns-clause-size
returns-clause-size c =
    let self = c.args.self.now in
    let d = description_view c.args.part.now in
    let small = part_small (wholes self.descriptions.items) self.area self.known c.args.position c.args.offset d c.requires c.stands.ensures in
    let size = c.far_size-size.ensures in
    let count = c.in_ok-bytes.ensures.len in
    let lent = ap length c.deref_mut.ensures.value in
    let owned = c.in_ok-bytes.bytes.ok.0 in
    let counted : length c.deref_mut.result.now ≡ size_of d = omega (arith, small, size, count, lent, owned) in
    ap length (with_items_is c.in_ok-bytes.bytes c.read.new.into (c.read.auto.into ∙ c.deref_mut.ensures.len)) ∙ c.read.auto.into ∙ counted

pub returns-clause-held : goal.returns-clause-held
returns-clause-held c =
    let self = c.args.self.now in
    let d = description_view c.args.part.now in
    let small = part_small (wholes self.descriptions.items) self.area self.known c.args.position c.args.offset d c.requires c.stands.ensures in
    let size = c.far_size-size.ensures in
    let count = c.in_ok-bytes.ensures.len in
    let lent = ap length c.deref_mut.ensures.value in
    let owned = c.in_ok-bytes.bytes.ok.0 in
    let counted : length c.deref_mut.result.now ≡ size_of d = omega (arith, small, size, count, lent, owned) in
    subst (λ l. PartHolds (blocks_view self) c.args.position c.args.offset d (values_of d l))
    (sym (with_items_is c.in_ok-bytes.bytes c.read.new.into (c.read.auto.into ∙ c.deref_mut.ensures.len)))
    (part_held (wholes self.descriptions.items) self.area self.known c.args.position c.args.offset d c.requires c.read.new.into
    (c.read.ensures ∙ ap (bytes_at self.area.blocks c.args.position c.args.offset) counted))
