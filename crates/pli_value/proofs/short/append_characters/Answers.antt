use Rattle.std.proofs.Common.{◌≡◌, ◌++◌, ap, ◌∙◌, arith}
use Rattle.pli_value.proofs.CharacterLemmas.{shown, shown_after}
use Rattle.pli_value.proofs.short.append_characters.Goals as goal

pub digit_character-requires : goal.digit_character-requires
digit_character-requires c = omega (arith, c.args.bits.few)

pub loop-place-preserved : goal.loop-place-preserved
loop-place-preserved c =
    shown_after c.args.bits.count c.args.bits.number c.loop-place.place c.digit_character.result _ c.loop-place.text.items _ c.loop-place.invariant
    c.in_ok-push.ensures.items c.digit_character.ensures

pub returns : goal.returns
returns c =
    let all : c.loop-place.place ≡ c.args.bits.count = omega arith in
    c.loop-place.invariant ∙ ap (λ n. c.args.text.now.items ++ shown c.args.bits.count c.args.bits.number n) all
