use Rattle.std.proofs.Common.{◌≡◌, sym, ◌∙◌, subst, arith}
use Rattle.std.proofs.lemmas.List.{with_items_is}
use Rattle.pli_map.specs.Sizes.{size_of}
use Rattle.pli_map.specs.views.DescriptionView.{description_view}
use Rattle.pli_store.specs.answers.Puts.{BytesStand, BytesCopied}
use Rattle.pli_store.proofs.PutsSaid.{part_is_copied}
use Rattle.pli_store.proofs.StandingParts.{bytes_stand}
use Rattle.pli_store.proofs.copying.copy_part.Goals as goal

pub copy_bytes-requires-clause-from : goal.copy_bytes-requires-clause-from
copy_bytes-requires-clause-from c =
    let d = description_view c.args.description.now in
    let size : c.far_size-size.result ≡ size_of d = omega (arith, c.far_size-size.ensures, c.requires.limit) in
    subst (λ gs. BytesStand gs c.args.from c.far_size-size.result) (sym c.deref_mut.ensures.value)
    (bytes_stand c.args.generations.now.items c.args.from d c.requires.from c.far_size-size.result size)

pub copy_bytes-requires-clause-to : goal.copy_bytes-requires-clause-to
copy_bytes-requires-clause-to c =
    let d = description_view c.args.description.now in
    let size : c.far_size-size.result ≡ size_of d = omega (arith, c.far_size-size.ensures, c.requires.limit) in
    subst (λ gs. BytesStand gs c.args.to c.far_size-size.result) (sym c.deref_mut.ensures.value)
    (bytes_stand c.args.generations.now.items c.args.to d c.requires.to c.far_size-size.result size)

pub returns : goal.returns
returns c = λ source.
    let generations = c.args.generations.now in
    let new = c.copy_bytes.new.generations in
    let d = description_view c.args.description.now in
    let size : c.far_size-size.result ≡ size_of d = omega (arith, c.far_size-size.ensures, c.requires.limit) in
    let copied = subst (λ gs. BytesCopied gs new c.args.from c.args.to c.far_size-size.result) c.deref_mut.ensures.value c.copy_bytes.ensures in
    rw (with_items_is generations new (c.copy_bytes.auto.generations ∙ c.deref_mut.ensures.len))
    (part_is_copied generations.items new c.args.from c.args.to d source c.requires.to c.far_size-size.result size copied)
