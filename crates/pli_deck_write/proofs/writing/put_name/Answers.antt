use Rattle.std.proofs.Common.{◌++◌, ◌∷◌, [], ap, sym, ◌∙◌, length}
use Rattle.std.proofs.lemmas.Result.{on_ok_weaker}
use Rattle.std.specs.List.{flat_map}
use Rattle.byteorder.specs.Endian.{big_bytes}
use Rattle.pli_deck_write.specs.DeckFields.{name}
use Rattle.pli_deck_write.proofs.LowBytes.{byte_by_byte}
use Rattle.pli_code.proofs.PutLemmas.{then_put}
use Rattle.pli_deck_write.proofs.writing.put_name.Goals as goal

pub returns : goal.returns
unfolding name
returns c =
    let text = c.bytes-text.result.now in
    on_ok_weaker c.put_bytes.result (then_put _ _ _ _ _ _ c.in_ok-put_small_count.ensures (ap (λ t. big_bytes 1 (length t) ++ flat_map (λ n. n ∷ []) t) (sym c.bytes-text.ensures) ∙ ap (λ bs. big_bytes 1 (length text) ++ bs) (byte_by_byte text))) c.put_bytes.ensures.put
