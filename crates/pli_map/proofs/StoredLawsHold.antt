-- The laws of stored values.
use Rattle.std.proofs.Common.{◌≡◌, ℕ, suc, ◌+◌, ◌-◌, ◌^◌, ◌<◌, ◌≤◌, nat_lt, true≢false, List, [], ◌++◌, append-nil, length, take, drop, replicate, Some, refl, ap, sym, ◌∙◌, arith}
use Rattle.std.proofs.lemmas.Bool.{eqb-true, leb-true, ltb-true, and_parts}
use Rattle.std.proofs.lemmas.List.{length-append, length-replicate, take_at, drop_at}
use Rattle.std.proofs.lemmas.Option.{same_Some}
use Rattle.byteorder.specs.Endian.{big_bytes, big_number}
use Rattle.byteorder.specs.Numbers.{big_number-reads_back, length-bytes_high_first}
use Rattle.pli_map.specs.Description.{FixedBinary, Character, Varying, Bit, Pointer, Offset}
use Rattle.pli_map.specs.laws.StoredLaws.{StoredBytesFill, StoredIsLoaded, BytesAreOfOneValue}
use Rattle.pli_map.specs.Sizes.{number_bytes}
use Rattle.pli_map.specs.StoredValues.{generation_word, position_word, pointer_of, loaded_value}
use Rattle.pli_value.specs.Packing.{packed, unpacked}
use Rattle.pli_value.specs.Value.{Number, Characters, Bits, Located}
use Rattle.pli_value.specs.declared.locator.Locator.TheVariants as locators
use Rattle.pli_value.proofs.PackedLaws.{unpacked_packed, packed_length}
use Rattle.pli_map.proofs.StoredNumbers.{number_read_back}

varying_length : (n : ℕ) (text : List ℕ) → length text ≤ n → length (big_bytes 2 (length text) ++ (text ++ replicate (n - length text) 0)) ≡ 2 + n
varying_length n text fits =
    let rest = replicate (n - length text) 0 in
    let zeros : length rest ≡ n - length text = length-replicate (n - length text) 0 in
    let both = length-append text rest in
    omega (arith, zeros, both)

pub stored_bytes_fill : StoredBytesFill
stored_bytes_fill (FixedBinary p) (Number x) e = length-bytes_high_first (number_bytes p) _
stored_bytes_fill (Character n) (Characters text) e = eqb-true _ _ e
stored_bytes_fill (Varying n) (Characters text) e = varying_length n text (leb-true _ _ e)
stored_bytes_fill (Bit n) (Bits bits) e =
    let count = eqb-true (length bits) n e in
    omega (arith, count, packed_length bits)
stored_bytes_fill Pointer (Located l) e =
    let first : length (big_bytes 4 (generation_word l)) ≡ 4 = length-bytes_high_first 4 (generation_word l) in
    let second : length (big_bytes 4 (position_word l)) ≡ 4 = length-bytes_high_first 4 (position_word l) in
    let both = length-append (big_bytes 4 (generation_word l)) (big_bytes 4 (position_word l)) in
    omega (arith, first, second, both)
stored_bytes_fill Offset (Located l) e = length-bytes_high_first 4 (position_word l)
stored_bytes_fill d v e = absurd (true≢false (sym e))

-- ---- what is stored is loaded

varying_back : (n : ℕ) (text : List ℕ) → n ≤ 32767 → length text ≤ n
    → take (big_number 2 (big_bytes 2 (length text) ++ (text ++ replicate (n - length text) 0))) (drop 2 (big_bytes 2 (length text) ++ (text ++ replicate (n - length text) 0))) ≡ text
varying_back n text limit fits =
    let rest = text ++ replicate (n - length text) 0 in
    let number : big_number 2 (big_bytes 2 (length text) ++ rest) ≡ length text = big_number-reads_back 2 (length text) rest (omega arith) in
    let after : drop 2 (big_bytes 2 (length text) ++ rest) ≡ rest = drop_at (big_bytes 2 (length text)) rest 2 (length-bytes_high_first 2 (length text)) in
    ap (λ k. take k (drop 2 (big_bytes 2 (length text) ++ rest))) number ∙ ap (take (length text)) after ∙ take_at text (replicate (n - length text) 0) (length text) refl

word_back : (n : ℕ) → n < 2 ^ 32 → big_number 4 (big_bytes 4 n) ≡ n
word_back n fits = ap (big_number 4) (sym (append-nil (big_bytes 4 n))) ∙ big_number-reads_back 4 n [] fits

pointer_back : (g k : ℕ) → suc g < 2 ^ 32 → k < 2 ^ 32
    → pointer_of (big_number 4 (big_bytes 4 (suc g) ++ big_bytes 4 k)) (big_number 4 (drop 4 (big_bytes 4 (suc g) ++ big_bytes 4 k))) ≡ locators.Pointer g k
pointer_back g k generation position =
    let first : big_number 4 (big_bytes 4 (suc g) ++ big_bytes 4 k) ≡ suc g = big_number-reads_back 4 (suc g) (big_bytes 4 k) generation in
    let after : drop 4 (big_bytes 4 (suc g) ++ big_bytes 4 k) ≡ big_bytes 4 k = drop_at (big_bytes 4 (suc g)) (big_bytes 4 k) 4 (length-bytes_high_first 4 (suc g)) in
    let second = ap (big_number 4) after ∙ word_back k position in
    ap (λ n. pointer_of n (big_number 4 (drop 4 (big_bytes 4 (suc g) ++ big_bytes 4 k)))) first ∙ ap (pointer_of (suc g)) second

pub stored_is_loaded : StoredIsLoaded
stored_is_loaded (FixedBinary p) (Number x) limit e = ap (λ y. Some (Number y)) (number_read_back p x (leb-true _ _ limit) (ltb-true _ _ e))
stored_is_loaded (Character n) (Characters text) limit e = refl
stored_is_loaded (Varying n) (Characters text) limit e = ap (λ t. Some (Characters t)) (varying_back n text (leb-true _ _ limit) (leb-true _ _ e))
stored_is_loaded (Bit n) (Bits bits) limit e =
    ap (λ k. Some (Bits (unpacked k (packed bits)))) (sym (eqb-true (length bits) n e)) ∙ ap (λ b. Some (Bits b)) (unpacked_packed bits)
stored_is_loaded Pointer (Located locators.Null) limit e = refl
stored_is_loaded Pointer (Located (locators.Pointer g k)) limit e =
    let both = and_parts (nat_lt (suc g) (2 ^ 32)) (nat_lt k (2 ^ 32)) e in
    ap (λ l. Some (Located l)) (pointer_back g k (ltb-true _ _ both.0) (ltb-true _ _ both.1))
stored_is_loaded Offset (Located (locators.Offset k)) limit e = ap (λ n. Some (Located (locators.Offset n))) (word_back k (ltb-true _ _ e))
stored_is_loaded d v limit e = absurd (true≢false (sym e))

pub bytes_are_of_one_value : BytesAreOfOneValue
bytes_are_of_one_value d v w limit e f same =
    same_Some _ _ (sym (stored_is_loaded d v limit e) ∙ ap (loaded_value d) same ∙ stored_is_loaded d w limit f)
