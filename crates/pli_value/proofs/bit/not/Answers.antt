use Rattle.std.proofs.Common.{◌≡◌, ℕ, ◌+◌, ◌*◌, ◌/◌, Bool, false, get_or, sym, ap, ◌∙◌, arith, not}
use Rattle.pli_value.proofs.BitLoopLemmas.{tabulated, map_is_tabulated}
use Rattle.pli_value.proofs.ByteLoopLemmas.{none_filled, one_filled, all_filled, filled_is, first_fill}
use Rattle.pli_value.proofs.bit.not.Goals as goal

pub bytes_of-size-requires : goal.bytes_of-size-requires
bytes_of-size-requires c = c.length-count.ensures.bound

pub loop-number-init : goal.loop-number-init
loop-number-init c = none_filled (λ k. not (get_or c.args.bits.now k false)) c.length-count.result _ c.in_ok-new.ensures.items

pub first_of-requires : goal.first_of-requires
first_of-requires c = omega (arith, c.bytes_of-size.ensures)

pub loop-number-preserved : goal.loop-number-preserved
loop-number-preserved c =
    let f : ℕ → Bool = λ k. not (get_or c.args.bits.now k false) in
    let from : ℕ = 8 * c.loop-number.number in
    one_filled f c.length-count.result c.loop-number.number c.loop-number.new.items _ c.loop-number.invariant
    (first_fill f c.length-count.result from c.turned-byte.result c.first_of.result
    (λ i below within. c.turned-byte.ensures i below ∙ ap not (c.octet.ensures i below)) c.first_of.ensures.kept c.first_of.ensures.blank)
    _ c.in_ok-push.ensures.items

pub of_bytes-requires : goal.of_bytes-requires
of_bytes-requires c =
    let all : c.loop-number.number ≡ (c.length-count.result + 7) / 8 = omega (arith, c.bytes_of-size.ensures) in
    all_filled (λ k. not (get_or c.args.bits.now k false)) c.length-count.result c.loop-number.number c.loop-number.new.items all c.loop-number.invariant c.length-count.ensures.bound

pub returns : goal.returns
returns c =
    let f : ℕ → Bool = λ k. not (get_or c.args.bits.now k false) in
    let all : c.loop-number.number ≡ (c.length-count.result + 7) / 8 = omega (arith, c.bytes_of-size.ensures) in
    c.of_bytes.ensures ∙ filled_is f c.length-count.result c.loop-number.number c.loop-number.new.items all c.loop-number.invariant
    ∙ ap (tabulated f) c.length-count.ensures.value ∙ sym (map_is_tabulated not c.args.bits.now false)
