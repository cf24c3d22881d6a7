use Rattle.std.proofs.Common.{refl, arith}
use Rattle.pli_map.specs.Description.{Pointer}
use Rattle.pli_value.specs.Value.{Located}
use Rattle.pli_store.specs.views.StorageView.{place_view}
use Rattle.pli_store.proofs.ReadParts.{known_read, otherwise, within}
use Rattle.pli_store.proofs.storage.Storage.pointer_at.Goals as goal

pub far_pointer-requires : goal.far_pointer-requires
far_pointer-requires c = c.if-not-is_pointer.ensures.0 refl

pub pointer_part-requires : goal.pointer_part-requires
pointer_part-requires c = c.if-not-is_pointer.ensures.0 refl

pub known_pointer-requires : goal.known_pointer-requires
known_pointer-requires c =
    omega (
      arith,
      within c.args.self.now (place_view c.args.place) c.in-Some.part c.in-Some.ensures c.index.result.now c.index.ensures c.deref.result.now c.deref.ensures.value
          Pointer (c.if-not-is_pointer.ensures.0 refl),
    )

pub returns-in-Some : goal.returns-in-Some
returns-in-Some c =
    known_read c.args.self.now (place_view c.args.place) c.in-Some.part c.in-Some.ensures c.index.result.now c.index.ensures c.deref.result.now c.deref.ensures.value
    Pointer (c.if-not-is_pointer.ensures.0 refl) refl (Located c.known_pointer.result) c.known_pointer.ensures

pub returns-in-None : goal.returns-in-None
returns-in-None c = λ w. otherwise c.far_pointer.result _ (λ none is. none) (c.far_pointer.ensures w)
