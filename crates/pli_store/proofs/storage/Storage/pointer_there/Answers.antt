use Rattle.std.proofs.Common.{refl, arith}
use Rattle.pli_map.specs.Description.{Pointer}
use Rattle.pli_value.specs.Value.{Located}
use Rattle.pli_store.specs.declared.part.GenerationPart.{GenerationPart}
use Rattle.pli_store.proofs.KnownLemmas.{part_leads, part_place, read_by}
use Rattle.pli_store.proofs.PlaceLemmas.{within_store}
use Rattle.pli_store.proofs.ReadParts.{known_read, within}
use Rattle.pli_store.proofs.storage.Storage.pointer_there.Goals as goal

pub index-requires : goal.index-requires
index-requires c =
    let o = c.requires.outside in
    let inside = within_store c.args.self.now.generations.items o.number c.args.at o.stands in
    omega (arith, inside)

pub known_pointer-requires : goal.known_pointer-requires
known_pointer-requires c =
    let s = c.args.self.now in
    let k = c.args.part.now in
    let l = c.args._locator in
    let o = c.requires.outside in
    let at = c.args.at in
    let part : GenerationPart = record { at = at; offset = k.offset } in
    omega (
      arith,
      within s (part_place s k l at o) part (part_leads s k l at o c.index.result.now c.index.ensures) c.index.result.now c.index.ensures c.deref.result.now c.deref.ensures.value
          Pointer c.requires.pointer,
    )

-- what is read there is what the part's place holds in every world, so the locator reads it
pub returns : goal.returns
returns c =
    let s = c.args.self.now in
    let k = c.args.part.now in
    let l = c.args._locator in
    let o = c.requires.outside in
    let at = c.args.at in
    let part : GenerationPart = record { at = at; offset = k.offset } in
    read_by s k l at o (Located c.known_pointer.result)
    (known_read s (part_place s k l at o) part (part_leads s k l at o c.index.result.now c.index.ensures) c.index.result.now c.index.ensures c.deref.result.now c.deref.ensures.value
    Pointer c.requires.pointer refl (Located c.known_pointer.result) c.known_pointer.ensures)
