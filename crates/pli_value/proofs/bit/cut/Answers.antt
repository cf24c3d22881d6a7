use Rattle.std.proofs.Common.{◌≡◌, ℕ, ◌+◌, ◌*◌, ◌/◌, Bool, ap, ◌∙◌, arith}
use Rattle.pli_value.specs.Packing.{packed_bit}
use Rattle.pli_value.proofs.ByteLoopLemmas.{none_filled, one_filled, all_filled, filled_is, first_fill}
use Rattle.pli_value.proofs.bit.cut.Goals as goal

pub loop-number-init : goal.loop-number-init
loop-number-init c = none_filled (λ k. packed_bit c.args.bytes.now (c.args.before + k)) c.args.count _ c.in_ok-packed.ensures.items

pub first_of-requires : goal.first_of-requires
first_of-requires c = omega (arith, c.bytes_of-size.ensures)

pub loop-number-preserved : goal.loop-number-preserved
loop-number-preserved c =
    let f : ℕ → Bool = λ k. packed_bit c.args.bytes.now (c.args.before + k) in
    let from : ℕ = 8 * c.loop-number.number in
    one_filled f c.args.count c.loop-number.number c.loop-number.packed.items _ c.loop-number.invariant
    (first_fill f c.args.count from c.window-byte.result c.first_of.result
    (λ i below within. let place : c.args.before + from + i ≡ c.args.before + (from + i) = omega arith in
    c.window-byte.ensures i below ∙ ap (packed_bit c.args.bytes.now) place) c.first_of.ensures.kept c.first_of.ensures.blank)
    _ c.in_ok-push.ensures.items

pub of_bytes-requires : goal.of_bytes-requires
of_bytes-requires c =
    let all : c.loop-number.number ≡ (c.args.count + 7) / 8 = omega (arith, c.bytes_of-size.ensures) in
    all_filled (λ k. packed_bit c.args.bytes.now (c.args.before + k)) c.args.count c.loop-number.number c.loop-number.packed.items all c.loop-number.invariant c.requires.limit

pub returns : goal.returns
returns c =
    let f : ℕ → Bool = λ k. packed_bit c.args.bytes.now (c.args.before + k) in
    let all : c.loop-number.number ≡ (c.args.count + 7) / 8 = omega (arith, c.bytes_of-size.ensures) in
    c.of_bytes.ensures ∙ filled_is f c.args.count c.loop-number.number c.loop-number.packed.items all c.loop-number.invariant
