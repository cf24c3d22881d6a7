use Rattle.std.proofs.Common.{◌≡◌, ◌≤◌, ℕ, ◌+◌, ◌*◌, ◌/◌, ◌++◌, Bool, false, get_or, length, sym, ◌∙◌, arith}
use Rattle.std.proofs.lemmas.List.{length-append}
use Rattle.pli_value.proofs.BitLoopLemmas.{itself_tabulated}
use Rattle.pli_value.proofs.ByteLoopLemmas.{none_filled, one_filled, all_filled, filled_is, join_fill}
use Rattle.pli_value.proofs.bit.join.Goals as goal

pub bytes_of-size-requires : goal.bytes_of-size-requires
bytes_of-size-requires c = omega (arith, c.requires, c.length-before.ensures.value, c.length-more.ensures.value)

pub octet_after-requires : goal.octet_after-requires
octet_after-requires c = omega (arith, c.requires, c.bytes_of-size.ensures, c.length-before.ensures.value, c.length-more.ensures.value)

pub loop-number-init : goal.loop-number-init
loop-number-init c =
    none_filled (λ k. get_or (c.args.left.now ++ c.args.right.now) k false) (c.length-before.result + c.length-more.result) _ c.in_ok-both.ensures.items

pub loop-number-preserved : goal.loop-number-preserved
loop-number-preserved c =
    let f : ℕ → Bool = λ k. get_or (c.args.left.now ++ c.args.right.now) k false in
    let n : ℕ = c.length-before.result + c.length-more.result in
    let front : length c.args.left.now ≡ c.length-before.result = sym c.length-before.ensures.value in
    let whole : length c.args.right.now + c.length-before.result ≡ n = omega (arith, c.length-more.ensures.value) in
    one_filled f n c.loop-number.number c.loop-number.both.items _ c.loop-number.invariant
    (join_fill c.args.left.now c.args.right.now c.length-before.result n (8 * c.loop-number.number) c.octet.result c.octet_after.result front whole
    c.octet.ensures c.octet_after.ensures.none c.octet_after.ensures.some)
    _ c.in_ok-push.ensures.items

pub of_bytes-requires : goal.of_bytes-requires
of_bytes-requires c =
    let n : ℕ = c.length-before.result + c.length-more.result in
    let all : c.loop-number.number ≡ (n + 7) / 8 = omega (arith, c.bytes_of-size.ensures) in
    let limit : n ≤ 32767 = omega (arith, c.requires, c.length-before.ensures.value, c.length-more.ensures.value) in
    all_filled (λ k. get_or (c.args.left.now ++ c.args.right.now) k false) n c.loop-number.number c.loop-number.both.items all c.loop-number.invariant limit

pub returns : goal.returns
returns c =
    let f : ℕ → Bool = λ k. get_or (c.args.left.now ++ c.args.right.now) k false in
    let n : ℕ = c.length-before.result + c.length-more.result in
    let all : c.loop-number.number ≡ (n + 7) / 8 = omega (arith, c.bytes_of-size.ensures) in
    let counted : length (c.args.left.now ++ c.args.right.now) ≡ n =
    omega (arith, length-append c.args.left.now c.args.right.now, c.length-before.ensures.value, c.length-more.ensures.value) in
    c.of_bytes.ensures ∙ filled_is f n c.loop-number.number c.loop-number.both.items all c.loop-number.invariant
    ∙ sym (itself_tabulated (c.args.left.now ++ c.args.right.now) n counted)
