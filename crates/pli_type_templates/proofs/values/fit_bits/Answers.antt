use Rattle.std.proofs.Common.{◌≡◌, ℕ, Bool, false, get_or, length, sym, ap, ◌∙◌, arith}
use Rattle.pli_value.proofs.BitLoopLemmas.{tabulated, tabulated_counted, tabulated_more, fitted_is_tabulated}
use Rattle.pli_type_templates.proofs.values.fit_bits.Goals as goal

pub push-requires : goal.push-requires
push-requires c =
    let f : ℕ → Bool = λ k. get_or c.args.bits.now k false in
    let counted : length c.loop-place.new ≡ c.loop-place.place = tabulated_counted f c.loop-place.place c.loop-place.new c.loop-place.invariant in
    omega arith

pub loop-place-preserved : goal.loop-place-preserved
loop-place-preserved c =
    let f : ℕ → Bool = λ k. get_or c.args.bits.now k false in
    tabulated_more f c.loop-place.place c.loop-place.new _ _ c.loop-place.invariant c.in_ok-push.ensures.pushed (cc)

pub returns : goal.returns
returns c =
    let f : ℕ → Bool = λ k. get_or c.args.bits.now k false in
    let all : c.loop-place.place ≡ c.args.size = omega arith in
    c.loop-place.invariant ∙ ap (tabulated f) all ∙ sym (fitted_is_tabulated false c.args.size c.args.bits.now)
