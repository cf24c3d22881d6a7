use Rattle.std.proofs.Common.{ap, ◌∙◌, arith, SFits, w64, rules}
use Rattle.std.proofs.lemmas.Int.{to_z-of_z}
use Rattle.pli_map.specs.Description.{Description, FixedBinary}
use Rattle.pli_map.specs.Scalars.{is_scalar}
use Rattle.pli_value.specs.Value.{Number}
use Rattle.pli_bytes.specs.Contents.{value_in}
use Rattle.pli_store.specs.declared.part.GenerationPart.{GenerationPart}
use Rattle.pli_store.specs.views.StorageView.{place_view}
use Rattle.pli_store.proofs.ReadParts.{value_read, within}
use Rattle.pli_store.proofs.storage.Storage.number_alone.Goals as goal

pub known_number-requires : goal.known_number-requires
known_number-requires c =
    let part : GenerationPart = record { at = c.args.lone.at; offset = 0 } in
    omega (
      arith,
      within c.args.self.now (place_view c.args._place) part c.requires.leads c.index.result.now c.index.ensures c.deref.result.now c.deref.ensures.value
          (FixedBinary c.args.lone.precision) c.requires.precision,
    )

pub returns : goal.returns
returns c =
    let part : GenerationPart = record { at = c.args.lone.at; offset = 0 } in
    let bytes = c.deref.result.now in
    let x = c.known_number.result in
    let fits : SFits w64 x = search rules in
    rw (to_z-of_z w64 x fits)
    (value_read c.args.self.now (place_view c.args._place) part c.requires.leads c.index.result.now c.index.ensures bytes c.deref.ensures.value
    (Number x) (ap is_scalar c.requires.precision)
    (ap (λ (d : Description). value_in bytes (record { offset = 0; description = d })) c.requires.precision ∙ c.known_number.ensures))
