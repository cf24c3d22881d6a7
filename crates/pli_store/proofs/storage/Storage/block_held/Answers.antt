use Rattle.std.proofs.Common.{◌≡◌, ℕ, [], ◌∷◌, length, map, sym, ap, ◌∙◌, arith}
use Rattle.std.specs.Global.{Vec}
use Rattle.std.proofs.lemmas.Result.{err_from_is_err_and}
use Rattle.pli_bytes.specs.Contents.{value_in, values_of}
use Rattle.pli_bytes.proofs.Scalars.{scalar_alone}
use Rattle.pli_map.specs.views.DescriptionView.{description_view}
use Rattle.pli_value.specs.Value.{Value, value_view}
use Rattle.pli_store.specs.views.StorageView.{place_view, with_storage}
use Rattle.pli_store.proofs.ByBytes.{held_refused, held_many, held_one}
use Rattle.pli_store.proofs.storage.Storage.block_held.Goals as goal

pub returns-in_err-bytes : goal.returns-in_err-bytes
returns-in_err-bytes c = λ w.
    let p = err_from_is_err_and c.from_residual.result c.from_residual.ensures.1 in
    let before = with_storage c.args.self.now w in
    rw (p.1, p.2) (held_refused (place_view c.args.place) before (λ (bytes : Vec ℕ). values_of (description_view c.args.place.description.now) bytes.items) value_view before
    c.in_err-bytes.field-0.0 (c.in_err-bytes.ensures.held w))

pub returns-then-not-is_scalar : goal.returns-then-not-is_scalar
returns-then-not-is_scalar c = λ w.
    held_many (place_view c.args.place) (with_storage c.args.self.now w) (values_of (description_view c.args.place.description.now) c.in_ok-bytes.bytes.items)
    (c.in_ok-bytes.ensures.held w) (sym c.if-not-is_scalar.ensures)

pub value_at-requires : goal.value_at-requires
value_at-requires c =
    let size = c.in_ok-bytes.ensures.size in
    let lent = ap length c.deref.ensures.value in
    omega (arith, size, lent)

pub returns : goal.returns
returns c = λ w.
    let d = description_view c.args.place.description.now in
    let bytes = c.in_ok-bytes.bytes.items in
    let scalar = sym c.if-not-is_scalar.ensures in
    let one : values_of d bytes ≡ value_view c.in_ok-value_at.field-0 ∷ [] =
    ap (map (value_in bytes)) (scalar_alone d scalar)
    ∙ ap (λ b. value_in b (record { offset = 0; description = d }) ∷ []) (sym c.deref.ensures.value)
    ∙ ap (λ (v : Value). v ∷ []) (sym c.in_ok-value_at.ensures) in
    held_one (place_view c.args.place) (with_storage c.args.self.now w) (values_of d bytes) (c.in_ok-bytes.ensures.held w) (value_view c.in_ok-value_at.field-0) scalar one
