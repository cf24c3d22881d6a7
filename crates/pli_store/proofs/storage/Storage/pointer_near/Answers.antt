use Rattle.std.proofs.Common.{refl, arith}
use Rattle.pli_map.specs.Description.{Pointer}
use Rattle.pli_value.specs.Value.{Located}
use Rattle.pli_store.specs.declared.part.GenerationPart.{GenerationPart}
use Rattle.pli_store.specs.views.StorageView.{place_view}
use Rattle.pli_store.proofs.ReadParts.{known_read, within}
use Rattle.pli_store.proofs.storage.Storage.pointer_near.Goals as goal

pub known_pointer-requires : goal.known_pointer-requires
known_pointer-requires c =
    let part : GenerationPart = record { at = c.args.near.at; offset = c.args.near.offset } in
    omega (
      arith,
      within c.args.self.now (place_view c.args._place) part c.requires.leads c.index.result.now c.index.ensures c.deref.result.now c.deref.ensures.value
          Pointer c.requires.pointer,
    )

pub returns : goal.returns
returns c =
    let part : GenerationPart = record { at = c.args.near.at; offset = c.args.near.offset } in
    known_read c.args.self.now (place_view c.args._place) part c.requires.leads c.index.result.now c.index.ensures c.deref.result.now c.deref.ensures.value
    Pointer c.requires.pointer refl (Located c.known_pointer.result) c.known_pointer.ensures
