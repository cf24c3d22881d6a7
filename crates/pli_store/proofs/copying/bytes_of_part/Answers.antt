use Rattle.std.proofs.Common.{◌≡◌, length, ap, ◌∙◌, arith}
use Rattle.std.proofs.lemmas.List.{with_items_is}
use Rattle.pli_bytes.specs.Contents.{bytes_from}
use Rattle.pli_map.specs.Sizes.{size_of}
use Rattle.pli_map.specs.views.DescriptionView.{description_view}
use Rattle.pli_store.proofs.copying.bytes_of_part.Goals as goal

pub take_bytes-requires : goal.take_bytes-requires
take_bytes-requires c =
    let size = c.far_size-size.ensures in
    let count = c.in_ok-bytes.ensures.len in
    let lent = ap length c.deref_mut.ensures.value in
    let owned = c.in_ok-bytes.bytes.ok.0 in
    let within = c.requires.within in
    let limit = c.requires.limit in
    omega (arith, size, count, lent, owned, within, limit)

pub returns : goal.returns
returns c =
    let size = c.far_size-size.ensures in
    let count = c.in_ok-bytes.ensures.len in
    let lent = ap length c.deref_mut.ensures.value in
    let owned = c.in_ok-bytes.bytes.ok.0 in
    let limit = c.requires.limit in
    let counted : length c.deref_mut.result.now ≡ size_of (description_view c.args.description.now) = omega (arith, size, count, lent, owned, limit) in
    with_items_is c.in_ok-bytes.bytes c.take_bytes.new.bytes (c.take_bytes.auto.bytes ∙ c.deref_mut.ensures.len) ∙ c.take_bytes.ensures
    ∙ ap (λ n. bytes_from c.args.offset n c.args.generation.now.bytes.items) counted
