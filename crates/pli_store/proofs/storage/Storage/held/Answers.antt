use Rattle.std.proofs.Common.{length, sym, ap, arith}
use Rattle.std.proofs.lemmas.Result.{err_from_is_err_and}
use Rattle.pli_map.specs.views.DescriptionView.{description_view}
use Rattle.pli_value.specs.Value.{value_view}
use Rattle.pli_store.specs.views.StorageView.{place_view, with_storage}
use Rattle.pli_store.proofs.PartAnswers.{held_failed, held_aggregate}
use Rattle.pli_store.proofs.ReadParts.{value_read}
use Rattle.pli_store.proofs.StandingParts.{inside, read_there, bytes_within}
use Rattle.pli_store.proofs.storage.Storage.held.Goals as goal

pub returns-in_err-part : goal.returns-in_err-part
returns-in_err-part c = λ w.
    let p = err_from_is_err_and c.from_residual.result c.from_residual.ensures.1 in
    rw (p.1, p.2) (held_failed value_view (place_view c.args.place) (with_storage c.args.self.now w) (with_storage c.args.self.now w) c.if-place-ne0.false c.in_err-part.field-0.0 c.in_err-part.ensures)

pub returns-then-not-is_scalar : goal.returns-then-not-is_scalar
returns-then-not-is_scalar c = λ w. held_aggregate (place_view c.args.place) (with_storage c.args.self.now w) c.in_ok-part.part c.in_ok-part.ensures (sym c.if-not-is_scalar.ensures)

pub index-requires : goal.index-requires
index-requires c =
    let within = inside c.args.self.now.generations.items c.in_ok-part.part (description_view c.args.place.description.now) c.in_ok-part.ensures.there in
    omega (arith, within)

pub value_at-requires : goal.value_at-requires
value_at-requires c =
    let items = c.args.self.now.generations.items in
    let d = description_view c.args.place.description.now in
    let there = c.in_ok-part.ensures.there in
    let g = c.index.result.now in
    let within = bytes_within items c.in_ok-part.part d there g (read_there items c.in_ok-part.part d there g c.index.ensures) in
    omega (arith, within, ap length c.deref.ensures.value)

pub returns : goal.returns
returns c = λ w.
    value_read c.args.self.now (place_view c.args.place) c.in_ok-part.part c.in_ok-part.ensures c.index.result.now c.index.ensures c.deref.result.now c.deref.ensures.value
    (value_view c.in_ok-value_at.field-0) (sym c.if-not-is_scalar.ensures) (sym c.in_ok-value_at.ensures) w
