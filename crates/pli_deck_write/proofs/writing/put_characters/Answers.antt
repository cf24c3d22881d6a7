use Rattle.std.proofs.Common.{◌++◌, ap, length}
use Rattle.std.proofs.lemmas.Result.{on_ok_weaker}
use Rattle.byteorder.specs.Endian.{big_bytes}
use Rattle.pli_deck_write.specs.DeckFields.{characters}
use Rattle.pli_deck_write.proofs.LowBytes.{byte_by_byte}
use Rattle.pli_code.proofs.PutLemmas.{then_put}
use Rattle.pli_deck_write.proofs.writing.put_characters.Goals as goal

pub returns : goal.returns
unfolding characters
returns c =
    let text = c.args.text.now in
    on_ok_weaker c.put_bytes.result (then_put _ _ _ _ _ _ c.in_ok-put_count.ensures (ap (λ bs. big_bytes 2 (length text) ++ bs) (byte_by_byte text))) c.put_bytes.ensures.put
