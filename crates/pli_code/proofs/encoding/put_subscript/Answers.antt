use Rattle.std.proofs.Common.{ℤ, List, ℕ, ◌++◌, ◌∷◌, [], refl, ap, ◌∙◌}
use Rattle.std.specs.Int.{w32, cast_unsigned}
use Rattle.std.proofs.lemmas.Int.{to_z-of_z}
use Rattle.std.proofs.lemmas.Result.{on_ok_weaker}
use Rattle.byteorder.specs.Endian.{big_bytes}
use Rattle.pli_code.proofs.PutLemmas.{then_put}
use Rattle.pli_code.proofs.encoding.put_subscript.Goals as goal

abbrev word : ℤ → List ℕ
word z = big_bytes 4 (cast_unsigned w32 z)

pub returns : goal.returns
returns c =
    let out = c.args.out.now.items in
    let low = word c.args.low in
    let high = word c.args.high in
    let multiplier = big_bytes 4 c.args.multiplier in
    let first = then_put out _ _ (17 ∷ []) low (17 ∷ low) c.in_ok-put_byte.ensures refl (c.in_ok-put_signed.ensures ∙ ap (λ z. c.put_byte.new.out.items ++ word z) (to_z-of_z w32 c.args.low c.ranges.low)) in
    let second = then_put out _ _ (17 ∷ low) high (17 ∷ (low ++ high)) first refl (c.in_ok-put_signed-2.ensures ∙ ap (λ z. c.put_signed.new.out.items ++ word z) (to_z-of_z w32 c.args.high c.ranges.high)) in
    on_ok_weaker c.put_word.result (then_put out _ _ (17 ∷ (low ++ high)) multiplier (17 ∷ (low ++ (high ++ multiplier))) second refl) c.put_word.ensures
