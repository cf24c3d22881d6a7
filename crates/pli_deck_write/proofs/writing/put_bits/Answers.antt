use Rattle.std.proofs.Common.{◌≡◌, ◌++◌, ap, sym, ◌∙◌, length}
use Rattle.std.proofs.lemmas.Result.{on_ok_weaker}
use Rattle.byteorder.specs.Endian.{big_bytes}
use Rattle.pli_value.specs.Packing.{packed}
use Rattle.pli_value.proofs.PackedLaws.{packed_is}
use Rattle.pli_deck_write.specs.DeckFields.{bit_string}
use Rattle.pli_code.proofs.PutLemmas.{then_put}
use Rattle.pli_deck_write.proofs.writing.put_bits.Goals as goal

pub returns : goal.returns
unfolding bit_string
returns c =
    let bits = c.args.bits.now in
    let own : packed bits ≡ c.bytes.result.now = sym (packed_is (length bits) c.bytes.result.now c.bytes.ensures.packed c.put_bytes.ensures.bytes ∙ ap packed c.bytes.ensures.value) in
    on_ok_weaker c.put_bytes.result (then_put _ _ _ _ _ _ c.in_ok-put_count.ensures (ap (λ n. big_bytes 2 n ++ packed bits) (sym c.length.ensures.value) ∙ ap (λ bs. big_bytes 2 c.length.result ++ bs) own)) c.put_bytes.ensures.put
