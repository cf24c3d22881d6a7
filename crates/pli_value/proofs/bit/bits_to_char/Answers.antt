use Rattle.std.proofs.Common.{◌≡◌, ℕ, false, get_or, length, sym, ap, ◌∙◌, arith}
use Rattle.pli_value.proofs.BitLoopLemmas.{tabulated, tabulated_more, map_is_tabulated}
use Rattle.pli_value.specs.Conversions.{bit_character}
use Rattle.pli_value.proofs.bit.bits_to_char.Goals as goal

pub loop-place-preserved : goal.loop-place-preserved
loop-place-preserved c =
    let f : ℕ → ℕ = λ k. bit_character (get_or c.args.bits.now k false) in
    tabulated_more f c.loop-place.place c.loop-place.characters.items _ _ c.loop-place.invariant c.in_ok-push.ensures.items (cc)

pub returns : goal.returns
returns c =
    let f : ℕ → ℕ = λ k. bit_character (get_or c.args.bits.now k false) in
    let all : c.loop-place.place ≡ length c.args.bits.now = omega (arith, c.length-place-end.ensures.bound, c.length-place-end.ensures.value) in
    c.loop-place.invariant ∙ ap (tabulated f) all ∙ sym (map_is_tabulated bit_character c.args.bits.now false)
