use Rattle.std.proofs.Common.{◌≡◌, ℕ, ◌<◌, false, get_or, length, take, sym, ap, ◌∙◌, arith}
use Rattle.std.proofs.lemmas.List.{take_more_set}
use Rattle.pli_value.specs.Conversions.{bit_character}
use Rattle.pli_value.proofs.BitLoopLemmas.{tabulated, tabulated_more, map_is_tabulated}
use Rattle.pli_value.proofs.bit.spell.Goals as goal

pub loop-place-preserved : goal.loop-place-preserved
loop-place-preserved c =
    let f : ℕ → ℕ = λ k. bit_character (get_or c.args.bits.now k false) in
    let within : c.loop-place.place < length c.loop-place.buffer = omega (arith, c.length-place-end.ensures.value, c.requires) in
    tabulated_more f c.loop-place.place (take c.loop-place.place c.loop-place.buffer) _ c.character_of.result c.loop-place.invariant
    (take_more_set c.loop-place.buffer c.loop-place.place c.character_of.result within) (cc)

pub returns : goal.returns
returns c =
    let f : ℕ → ℕ = λ k. bit_character (get_or c.args.bits.now k false) in
    let all : c.loop-place.place ≡ length c.args.bits.now = omega (arith, c.length-place-end.ensures.value) in
    let bits = c.args.bits.now in
    ap (λ n. take n c.loop-place.buffer) (sym all) ∙ c.loop-place.invariant ∙ ap (tabulated f) all ∙ sym (map_is_tabulated bit_character bits false)
