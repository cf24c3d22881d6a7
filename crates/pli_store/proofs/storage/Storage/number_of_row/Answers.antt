use Rattle.std.proofs.Common.{refl, arith, SFits, w64, rules}
use Rattle.std.proofs.lemmas.Int.{to_z-of_z}
use Rattle.pli_map.specs.Description.{FixedBinary}
use Rattle.pli_value.specs.Value.{Number}
use Rattle.pli_store.specs.declared.part.GenerationPart.{GenerationPart}
use Rattle.pli_store.specs.views.StorageView.{place_view}
use Rattle.pli_store.proofs.ReadParts.{known_read, within}
use Rattle.pli_store.proofs.storage.Storage.number_of_row.Goals as goal

pub number_within-requires : goal.number_within-requires
number_within-requires c =
    let part : GenerationPart = record { at = c.args.row.at; offset = c.args.row.offset } in
    omega (
      arith,
      within c.args.self.now (place_view c.args._place) part c.requires.leads c.index.result.now c.index.ensures c.deref.result.now c.deref.ensures.value
          (FixedBinary c.args.row.precision) c.requires.precision,
    )

pub returns : goal.returns
returns c =
    let part : GenerationPart = record { at = c.args.row.at; offset = c.args.row.offset } in
    let x = c.number_within.result in
    let fits : SFits w64 x = search rules in
    rw (to_z-of_z w64 x fits)
    (known_read c.args.self.now (place_view c.args._place) part c.requires.leads c.index.result.now c.index.ensures c.deref.result.now c.deref.ensures.value
    (FixedBinary c.args.row.precision) c.requires.precision refl (Number x) c.number_within.ensures)
