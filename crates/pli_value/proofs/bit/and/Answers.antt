use Rattle.std.proofs.Common.{◌≡◌, ℕ, ◌+◌, ◌*◌, ◌/◌, Bool, false, max, get_or, length, ap, ◌∙◌, arith, ◌&&◌}
use Rattle.pli_value.proofs.BitLoopLemmas.{tabulated}
use Rattle.pli_value.proofs.ByteLoopLemmas.{none_filled, one_filled, all_filled, filled_is, both_fill}
use Rattle.pli_value.proofs.bit.and.Goals as goal

pub bytes_of-size-requires : goal.bytes_of-size-requires
bytes_of-size-requires c = omega (arith, c.length.ensures.bound, c.length-2.ensures.bound, c.max-count.ensures)

pub loop-number-init : goal.loop-number-init
loop-number-init c =
    none_filled (λ k. get_or c.args.left.now k false && get_or c.args.right.now k false) c.max-count.result _ c.in_ok-both.ensures.items

pub loop-number-preserved : goal.loop-number-preserved
loop-number-preserved c =
    let f : ℕ → Bool = λ k. get_or c.args.left.now k false && get_or c.args.right.now k false in
    let longest : c.max-count.result ≡ max (length c.args.left.now) (length c.args.right.now) =
    omega (arith, c.length.ensures.value, c.length-2.ensures.value, c.max-count.ensures) in
    one_filled f c.max-count.result c.loop-number.number c.loop-number.both.items _ c.loop-number.invariant
    (both_fill c.args.left.now c.args.right.now c.max-count.result (8 * c.loop-number.number) c.octet.result c.octet-in-loop-number.result longest c.octet.ensures c.octet-in-loop-number.ensures)
    _ c.in_ok-push.ensures.items

pub of_bytes-requires : goal.of_bytes-requires
of_bytes-requires c =
    let f : ℕ → Bool = λ k. get_or c.args.left.now k false && get_or c.args.right.now k false in
    let all : c.loop-number.number ≡ (c.max-count.result + 7) / 8 = omega (arith, c.bytes_of-size.ensures) in
    all_filled f c.max-count.result c.loop-number.number c.loop-number.both.items all c.loop-number.invariant
    (omega (arith, c.length.ensures.bound, c.length-2.ensures.bound, c.max-count.ensures))

pub returns : goal.returns
returns c =
    let f : ℕ → Bool = λ k. get_or c.args.left.now k false && get_or c.args.right.now k false in
    let all : c.loop-number.number ≡ (c.max-count.result + 7) / 8 = omega (arith, c.bytes_of-size.ensures) in
    let longest : c.max-count.result ≡ max (length c.args.left.now) (length c.args.right.now) =
    omega (arith, c.length.ensures.value, c.length-2.ensures.value, c.max-count.ensures) in
    c.of_bytes.ensures ∙ filled_is f c.max-count.result c.loop-number.number c.loop-number.both.items all c.loop-number.invariant ∙ ap (tabulated f) longest
