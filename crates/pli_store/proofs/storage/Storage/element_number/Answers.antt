use Rattle.std.proofs.Common.{refl, arith, SFits, w64, rules}
use Rattle.std.proofs.lemmas.Int.{to_z-of_z}
use Rattle.pli_map.specs.Description.{FixedBinary}
use Rattle.pli_value.specs.Value.{Number}
use Rattle.pli_store.specs.views.StorageView.{place_view}
use Rattle.pli_store.proofs.ReadParts.{known_read, otherwise, within}
use Rattle.pli_store.proofs.storage.Storage.element_number.Goals as goal

pub number_within-requires : goal.number_within-requires
number_within-requires c =
    omega (
      arith,
      within c.args.self.now (place_view c.args.place) c.in-Some.part c.in-Some.ensures c.index.result.now c.index.ensures c.deref.result.now c.deref.ensures.value
          (FixedBinary c.in_ok-precision.precision) c.in_ok-precision.ensures,
    )

pub returns-in-Some : goal.returns-in-Some
returns-in-Some c =
    let x = c.number_within.result in
    let fits : SFits w64 x = search rules in
    rw (to_z-of_z w64 x fits)
    (known_read c.args.self.now (place_view c.args.place) c.in-Some.part c.in-Some.ensures c.index.result.now c.index.ensures c.deref.result.now c.deref.ensures.value
    (FixedBinary c.in_ok-precision.precision) c.in_ok-precision.ensures refl (Number x) c.number_within.ensures)

pub returns-in-None : goal.returns-in-None
returns-in-None c = λ w. otherwise c.walked_number.result _ (λ none precision is. none) (c.walked_number.ensures w)
