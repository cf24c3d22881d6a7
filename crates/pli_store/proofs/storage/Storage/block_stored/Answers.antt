use Rattle.std.proofs.Common.{◌≡◌, ℕ, [], ◌∷◌, length, sym, ap, ◌∙◌, subst, arith}
use Rattle.std.specs.Global.{Vec}
use Rattle.std.specs.Vec.{with_items}
use Rattle.std.proofs.lemmas.List.{with_items_is}
use Rattle.std.proofs.lemmas.Result.{err_from_is_err_and}
use Rattle.pli_bytes.specs.Contents.{values_of}
use Rattle.pli_map.specs.Description.{Description}
use Rattle.pli_map.specs.Sizes.{size_of}
use Rattle.pli_map.specs.views.DescriptionView.{description_view}
use Rattle.pli_value.specs.Value.{value_view}
use Rattle.pli_world.specs.World.{parts_stored}
use Rattle.pli_store.specs.answers.Answered.{Answered}
use Rattle.pli_store.specs.views.StorageView.{place_view, with_storage}
use Rattle.pli_store.proofs.ByBytes.{stored_refused, misfit_by_bytes, stored_by_bytes}
use Rattle.pli_store.proofs.MakingLemmas.{dummy_values}
use Rattle.pli_store.proofs.storage.Storage.block_stored.Goals as goal
use Rattle.pli_store.proofs.storage.Storage.block_stored.Goals.{After-put_value_at}

pub returns-in_err-bytes-clause-answer : goal.returns-in_err-bytes-clause-answer
returns-in_err-bytes-clause-answer c = λ w.
    let p = err_from_is_err_and c.from_residual.result c.from_residual.ensures.1 in
    let before = with_storage c.args.self.now w in
    rw (p.1, p.2) (stored_refused (place_view c.args.place) before {U = Unit {0}} (λ (bytes : Vec ℕ). values_of (description_view c.args.place.description.now) bytes.items) (λ x. tt)
    (value_view c.args.value.now) before c.in_err-bytes.field-0.0 (c.in_err-bytes.ensures.held w))

pub returns-then-not-holds-clause-answer : goal.returns-then-not-holds-clause-answer
returns-then-not-holds-clause-answer c = λ w.
    misfit_by_bytes (place_view c.args.place) (with_storage c.args.self.now w) (values_of (description_view c.args.place.description.now) c.in_ok-bytes.bytes.items)
    (c.in_ok-bytes.ensures.held w) (value_view c.args.value.now) (sym c.if-not-holds.ensures)

pub put_value_at-requires-clause-within : goal.put_value_at-requires-clause-within
put_value_at-requires-clause-within c =
    let size = c.in_ok-bytes.ensures.size in
    let lent = ap length c.deref_mut.ensures.value in
    omega (arith, size, lent)

-- the bytes that are put back hold the value
module _ (c : After-put_value_at) where
  abbrev d : Description
  d = description_view c.args.place.description.now

  size : length c.deref_mut.result.now ≡ size_of d
  size = ap length c.deref_mut.ensures.value ∙ c.in_ok-bytes.ensures.size

  said : (values_of d c.put_value_at.new.bytes ≡ value_view c.args.value.now ∷ []) × (length c.put_value_at.new.bytes ≡ length c.deref_mut.result.now)
  said = dummy_values d (value_view c.args.value.now) c.deref_mut.result.now c.put_value_at.new.bytes (sym c.if-not-holds.ensures) size c.put_value_at.ensures

  items : (with_items c.in_ok-bytes.bytes c.put_value_at.new.bytes).items ≡ c.put_value_at.new.bytes
  items = with_items_is c.in_ok-bytes.bytes c.put_value_at.new.bytes (said.1 ∙ c.deref_mut.ensures.len)

pub put_part_bytes-requires : goal.put_part_bytes-requires
put_part_bytes-requires c =
    let e = (goal.at.put_part_bytes-requires c).After-put_value_at in
    ap length (c.deref.ensures.value ∙ items e) ∙ (said e).1 ∙ size e

pub returns-clause-answer : goal.returns-clause-answer
returns-clause-answer c = λ w.
    let e = (goal.at.returns-clause-answer c).After-put_value_at in
    let p = place_view c.args.place in
    let before = with_storage c.args.self.now w in
    let v = value_view c.args.value.now in
    let values : values_of (d e) c.deref.result.now ≡ v ∷ [] = ap (values_of (d e)) (c.deref.ensures.value ∙ items e) ∙ (said e).0 in
    let by = stored_by_bytes p before (values_of (d e) c.in_ok-bytes.bytes.items) (c.in_ok-bytes.ensures.held w) v (sym c.if-not-holds.ensures) in
    subst (Answered (λ x. tt) c.put_part_bytes.result before (with_storage c.put_part_bytes.new.self w)) (sym by)
    (subst (λ vs. Answered (λ x. tt) c.put_part_bytes.result before (with_storage c.put_part_bytes.new.self w) (parts_stored p vs before)) values
    (c.put_part_bytes.ensures.answer w))
