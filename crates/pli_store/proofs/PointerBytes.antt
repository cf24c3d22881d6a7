-- The two numbers of a pointer, written one after the other, are the pointer's bytes.
use Rattle.std.proofs.Common.{◌≡◌, ℕ, ◌<◌, ◌≤◌, List, ◌++◌, length, take, drop, ap, sym, ◌∙◌, arith, append_assoc, length-append}
use Rattle.std.proofs.lemmas.List.{drop_at, drop-drop, take_at}
use Rattle.byteorder.specs.Endian.{big_bytes, big_number}
use Rattle.byteorder.specs.Numbers.{big_number-reads_back, length-bytes_high_first}
use Rattle.pli_bytes.specs.Changes.{IsPut}
use Rattle.pli_bytes.specs.Contents.{value_of}
use Rattle.pli_bytes.proofs.PutFront.{rest_from, rest_from_is, put_front, with_rest_from, with_rest_from_is}
use Rattle.pli_map.specs.Description.{Pointer}
use Rattle.pli_map.specs.StoredValues.{pointer_of}
use Rattle.pli_value.specs.Value.{Located}

module _ (first second : ℕ) (first_small : first < 4294967296) (second_small : second < 4294967296) where
  -- both are read, whatever stands after them
  numbers_back : (rest : List ℕ) → value_of Pointer ((big_bytes 4 first ++ big_bytes 4 second) ++ rest) ≡ Located (pointer_of first second)
  numbers_back rest =
      let a = big_bytes 4 first in
      let b = big_bytes 4 second in
      let bytes = (a ++ b) ++ rest in
      let number : big_number 4 bytes ≡ first = ap (big_number 4) (append_assoc a b rest) ∙ big_number-reads_back 4 first (b ++ rest) (omega (arith, first_small)) in
      let after : drop 4 bytes ≡ b ++ rest = ap (drop 4) (append_assoc a b rest) ∙ drop_at a (b ++ rest) 4 (length-bytes_high_first 4 first) in
      let next : big_number 4 (drop 4 bytes) ≡ second = ap (big_number 4) after ∙ big_number-reads_back 4 second rest (omega (arith, second_small)) in
      ap (λ n. Located (pointer_of n (big_number 4 (drop 4 bytes)))) number ∙ ap (λ n. Located (pointer_of first n)) next

  pub numbers_put : (old one back : List ℕ) → 8 ≤ length old → one ≡ big_bytes 4 first ++ drop 4 old → back ≡ big_bytes 4 second ++ drop 4 (rest_from 4 one)
      → IsPut Pointer (Located (pointer_of first second)) 0 old (with_rest_from 4 one back)
  numbers_put old one back inside one_is back_is =
      let a = big_bytes 4 first in
      let b = big_bytes 4 second in
      let front = a ++ b in
      let a_size : length a ≡ 4 = length-bytes_high_first 4 first in
      let b_size : length b ≡ 4 = length-bytes_high_first 4 second in
      let size : length front ≡ 8 = omega (arith, a_size, b_size, length-append a b) in
      let begin : take 4 one ≡ a = ap (take 4) one_is ∙ take_at a (drop 4 old) 4 a_size in
      let rest : rest_from 4 one ≡ drop 4 old = rest_from_is 4 one ∙ ap (drop 4) one_is ∙ drop_at a (drop 4 old) 4 a_size in
      let end : back ≡ b ++ drop 8 old = back_is ∙ ap (λ l. b ++ drop 4 l) rest ∙ ap (λ l. b ++ l) (drop-drop 4 4 old) in
      let new_is : with_rest_from 4 one back ≡ front ++ drop (length front) old =
      with_rest_from_is 4 one back ∙ ap (λ l. l ++ back) begin ∙ ap (λ l. a ++ l) end ∙ sym (append_assoc a b (drop 8 old))
      ∙ ap (λ k. front ++ drop k old) (sym size) in
      put_front Pointer (Located (pointer_of first second)) front old (with_rest_from 4 one back) (omega (arith, size)) inside new_is
      (numbers_back (drop (length front) (take 8 old)))
