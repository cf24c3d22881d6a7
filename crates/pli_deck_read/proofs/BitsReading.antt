-- What reading bits gives, by what the code finds.
use Rattle.std.proofs.Common.{◌≡◌, ℕ, ◌<◌, ◌≤◌, Bool, cond, List, length, take, drop, slice_index, Err, sym, ap, ◌∙◌}
use Rattle.std.specs.Str.{bytes_eq}
use Rattle.std.proofs.lemmas.Bool.{lt-ltb, le-ltb}
use Rattle.pli_value.specs.Packing.{IsPacked, packed, unpacked}
use Rattle.pli_value.proofs.PackedLaws.{packed_is}
use Rattle.pli_code.specs.declared.fault.DeckFault.TheVariants.{Truncated}
use Rattle.pli_code.specs.Fields.{held}
use Rattle.pli_deck_write.specs.DeckFields.{byte_count, bits_in, bits_at}

pub bits_short : (count : ℕ) (bytes : List ℕ) → length bytes < byte_count count → bits_at count bytes ≡ Err Truncated
unfolding bits_at
bits_short count bytes lt =
    let k = byte_count count in
    ap (λ b. cond b (Err Truncated) (bits_in count (take k bytes) (drop k bytes))) (lt-ltb (length bytes) k lt)

pub bits_read : (count : ℕ) (bytes front rest own : List ℕ) (bits : List Bool) (same : Bool) → byte_count count ≤ length bytes → front ≡ take (byte_count count) bytes → rest ≡ drop (byte_count count) bytes
    → bits ≡ unpacked count front → unpacked (length bits) own ≡ bits → IsPacked (length bits) own → ((i : ℕ) → slice_index own i < 256) → same ≡ bytes_eq front own → bits_at count bytes ≡ held same (bits, rest)
unfolding bits_at
bits_read count bytes front rest own bits same le is_front is_rest is_bits is_own is_packed small is_same =
    let k = byte_count count in
    let own_is : own ≡ packed bits = packed_is (length bits) own is_packed small ∙ ap packed is_own in
    ap (λ b. cond b (Err Truncated) (bits_in count (take k bytes) (drop k bytes))) (le-ltb (length bytes) k le)
    ∙ ap (λ s. bits_in count s (drop k bytes)) (sym is_front) ∙ ap (λ s. bits_in count front s) (sym is_rest)
    ∙ ap (λ bs. held (bytes_eq front (packed bs)) (bs, rest)) (sym is_bits)
    ∙ ap (λ s. held (bytes_eq front s) (bits, rest)) (sym own_is) ∙ ap (λ g. held g (bits, rest)) (sym is_same)
