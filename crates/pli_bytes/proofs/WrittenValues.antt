-- What is written at the front of bytes is a value's: a number in its width, and characters after their length.
use Rattle.std.proofs.Common.{◌≡◌, ℕ, ◌+◌, ◌^◌, ◌<◌, ◌≤◌, min, true, ℤ, pos, List, ◌++◌, length, take, drop, refl, ap, sym, ◌∙◌, arith, append_assoc, length-append, length-drop}
use Rattle.std.specs.Int.{Width, cast_signed, cast_unsigned}
use Rattle.std.specs.Option.{unwrap_or}
use Rattle.std.proofs.lemmas.Int.{to_z-of_z}
use Rattle.std.proofs.lemmas.List.{drop_at, drop-drop, drop-take, take_at, take-take, take_min, length-take-le}
use Rattle.std.proofs.Math.Seq.{take-append-add, drop-append-add}
use mir.Val.{SFits}
use Rattle.byteorder.specs.Endian.{big_bytes, big_number}
use Rattle.byteorder.specs.Numbers.{big_from-take, big_number-reads_back, length-bytes_high_first}
use Rattle.pli_map.specs.Description.{Description, FixedBinary, Varying}
use Rattle.pli_map.specs.Sizes.{number_bytes, size_of}
use Rattle.pli_map.specs.StoredValues.{is_storable, stored_bytes, width_of}
use Rattle.pli_map.specs.Values.{holds}
use Rattle.pli_map.proofs.StoredLawsHold.{stored_bytes_fill, stored_is_loaded}
use Rattle.pli_value.specs.Value.{Value, Number, Characters}
use Rattle.pli_bytes.specs.Changes.{IsPut, IsAppended}
use Rattle.pli_bytes.specs.Contents.{value_of, bytes_from}
use Rattle.pli_bytes.proofs.PutFront.{rest_from, with_rest_from, rest_from_is, with_rest_from_is, put_front}

-- ---- numbers

module _ (p n : ℕ) (w : Width) (x : ℤ) (is : (width_of p ≡ w) × (number_bytes p ≡ n)) (below : cast_unsigned w x < 256 ^ n) (fits : SFits w x) where
  -- the bytes of a number hold it, whatever stands after them
  number_back : (rest : List ℕ) → value_of (FixedBinary p) (big_bytes n (cast_unsigned w x) ++ rest) ≡ Number x
  number_back rest =
      let bytes = big_bytes n (cast_unsigned w x) ++ rest in
      ap (λ m. Number (cast_signed (width_of p) (big_number m bytes))) is.1
      ∙ ap (λ v. Number (cast_signed v (big_number n bytes))) is.0
      ∙ ap (λ k. Number (cast_signed w k)) (big_number-reads_back n (cast_unsigned w x) rest below)
      ∙ ap Number (to_z-of_z w x fits)

  pub number_put : (old new : List ℕ) → n ≤ length old → new ≡ big_bytes n (cast_unsigned w (cast_signed w (cast_unsigned w x))) ++ drop n old → IsPut (FixedBinary p) (Number x) 0 old new
  number_put old new room is_new =
      let front = big_bytes n (cast_unsigned w x) in
      let size : length front ≡ n = length-bytes_high_first n (cast_unsigned w x) in
      put_front (FixedBinary p) (Number x) front old new (omega (arith, size, is.1)) (omega (arith, room, is.1))
      (is_new ∙ ap (λ y. big_bytes n (cast_unsigned w y) ++ drop n old) (to_z-of_z w x fits) ∙ ap (λ k. front ++ drop k old) (sym size))
      (number_back (drop (length front) (take (number_bytes p) old)))

-- ---- characters after their length

-- they are read, whatever stands after them
text_back : (greatest : ℕ) (text rest : List ℕ) → length text < 65536 → value_of (Varying greatest) (big_bytes 2 (length text) ++ (text ++ rest)) ≡ Characters text
text_back greatest text rest below =
    let bytes = big_bytes 2 (length text) ++ (text ++ rest) in
    let number : big_number 2 bytes ≡ length text = big_number-reads_back 2 (length text) (text ++ rest) (omega (arith, below)) in
    let beyond : drop 2 bytes ≡ text ++ rest = drop_at (big_bytes 2 (length text)) (text ++ rest) 2 (length-bytes_high_first 2 (length text)) in
    ap (λ k. Characters (take k (drop 2 bytes))) number ∙ ap (λ l. Characters (take (length text) l)) beyond ∙ ap Characters (take_at text rest (length text) refl)

-- where both are written, and nothing else
pub text_written : (greatest : ℕ) (text old new : List ℕ) → length text ≤ greatest → greatest < 65536 → 2 + greatest ≤ length old
    → new ≡ big_bytes 2 (length text) ++ (text ++ drop (2 + length text) old) → IsPut (Varying greatest) (Characters text) 0 old new
text_written greatest text old new fits limit inside is =
    let number = big_bytes 2 (length text) in
    let front = number ++ text in
    let size : length front ≡ 2 + length text = omega (arith, length-bytes_high_first 2 (length text), length-append number text) in
    let left = drop (length front) (take (2 + greatest) old) in
    put_front (Varying greatest) (Characters text) front old new (omega (arith, size, fits)) inside
    (is ∙ sym (append_assoc number text (drop (2 + length text) old)) ∙ ap (λ k. front ++ drop k old) (sym size))
    (ap (value_of (Varying greatest)) (append_assoc number text left) ∙ text_back greatest text left (omega (arith, fits, limit)))

-- a number in two bytes, and after so many characters that stay others in the place of as many
module _ (number before : ℕ) (more old first back : List ℕ) (inside : 2 + before ≤ length old)
    (first_is : first ≡ big_bytes 2 number ++ drop 2 old) (back_is : back ≡ more ++ drop (length more) (rest_from (2 + before) first)) where
  length_and_more : with_rest_from (2 + before) first back ≡ big_bytes 2 number ++ ((take before (drop 2 old) ++ more) ++ drop (2 + (before + length more)) old)
  length_and_more =
      let bytes = big_bytes 2 number in
      let size : length bytes ≡ 2 = length-bytes_high_first 2 number in
      let text = take before (drop 2 old) in
      let front : take (2 + before) first ≡ bytes ++ text =
      ap (take (2 + before)) first_is ∙ ap (λ n. take (n + before) (bytes ++ drop 2 old)) (sym size) ∙ take-append-add bytes (drop 2 old) before in
      let after : drop (2 + before) first ≡ drop before (drop 2 old) =
      ap (drop (2 + before)) first_is ∙ ap (λ n. drop (n + before) (bytes ++ drop 2 old)) (sym size) ∙ drop-append-add bytes (drop 2 old) before in
      let sum : 2 + (before + length more) ≡ 2 + before + length more = omega arith in
      let rest : drop (length more) (rest_from (2 + before) first) ≡ drop (2 + (before + length more)) old =
      ap (drop (length more)) (rest_from_is (2 + before) first ∙ after ∙ drop-drop before 2 old) ∙ drop-drop (length more) (2 + before) old
      ∙ ap (λ n. drop n old) (sym sum) in
      let left = drop (2 + (before + length more)) old in
      with_rest_from_is (2 + before) first back ∙ ap (λ l. l ++ back) front ∙ ap (λ l. bytes ++ text ++ l) (back_is ∙ ap (λ l. more ++ l) rest)
      ∙ append_assoc bytes text (more ++ left) ∙ ap (λ l. bytes ++ l) (sym (append_assoc text more left))

pub text_put : (greatest : ℕ) (text old first back : List ℕ) → length text ≤ greatest → greatest < 65536 → 2 + greatest ≤ length old
    → first ≡ big_bytes 2 (length text) ++ drop 2 old → back ≡ text ++ drop (length text) (rest_from 2 first) → IsPut (Varying greatest) (Characters text) 0 old (with_rest_from 2 first back)
text_put greatest text old first back fits limit inside first_is back_is =
    let end : 0 + length text ≡ length text = omega arith in
    text_written greatest text old (with_rest_from 2 first back) fits limit inside
    (length_and_more (length text) 0 text old first back (omega (arith, inside)) first_is back_is
    ∙ ap (λ n. big_bytes 2 (length text) ++ (text ++ drop (2 + n) old)) end)

-- ---- characters put after others

-- those that are held are so many bytes after the length
held_text : (greatest before : ℕ) (old : List ℕ) → 2 + greatest ≤ length old → before ≡ min (big_number 2 old) greatest
    → let held = bytes_from 0 (2 + greatest) old in (take (big_number 2 held) (drop 2 held) ≡ take before (drop 2 old)) × (length (take before (drop 2 old)) ≡ before)
held_text greatest before old inside is =
    let held = take (2 + greatest) old in
    let number : big_number 2 held ≡ big_number 2 old = big_from-take 0 2 (2 + greatest) old (omega arith) in
    let text = take greatest (drop 2 old) in
    let left : greatest ≤ length (drop 2 old) = omega (arith, inside, length-drop 2 old) in
    let size : length text ≡ greatest = length-take-le greatest (drop 2 old) left in
    let fewer : min (big_number 2 old) (length text) ≡ before = omega (arith, is, size) in (
      ap (λ k. take k (drop 2 held)) number ∙ ap (take (big_number 2 old)) (drop-take 2 greatest old) ∙ sym (take_min (big_number 2 old) text)
          ∙ ap (λ k. take k text) fewer ∙ take-take before greatest (drop 2 old) (omega (arith, is)),
      length-take-le before (drop 2 old) (omega (arith, is, left)),
    )

pub text_appended : (greatest before : ℕ) (more : List ℕ) (room : ℕ) (old first back : List ℕ) → greatest < 65536 → 2 + greatest ≤ length old
    → before ≡ min (big_number 2 old) greatest → before + length more ≤ min room greatest
    → first ≡ big_bytes 2 (before + length more) ++ drop 2 old → back ≡ more ++ drop (length more) (rest_from (2 + before) first)
    → IsAppended greatest 0 more room old (with_rest_from (2 + before) first back)
text_appended greatest before more room old first back limit inside before_is fits first_is back_is =
    let held = bytes_from 0 (2 + greatest) old in
    let text = take (big_number 2 held) (drop 2 held) in
    let is = held_text greatest before old inside before_is in
    let size : length (text ++ more) ≡ before + length more = length-append text more ∙ ap (λ l. length l + length more) is.0 ∙ ap (λ n. n + length more) is.1 in
    let new = with_rest_from (2 + before) first back in
    let new_is : new ≡ big_bytes 2 (length (text ++ more)) ++ ((text ++ more) ++ drop (2 + length (text ++ more)) old) =
    length_and_more (before + length more) before more old first back (omega (arith, inside, before_is)) first_is back_is
    ∙ ap (λ l. big_bytes 2 (before + length more) ++ ((l ++ more) ++ drop (2 + (before + length more)) old)) (sym is.0)
    ∙ ap (λ n. big_bytes 2 n ++ ((text ++ more) ++ drop (2 + n) old)) (sym size) in
    record {
      text = text;
      was = refl;
      put = text_written greatest (text ++ more) old new (omega (arith, size, fits)) limit inside new_is;
      fits = omega (arith, size, fits);
    }

-- ---- a value stored in all of its bytes

pub stored_put : (d : Description) (v : Value) (old new : List ℕ) → is_storable d ≡ true → holds d v ≡ true
    → new ≡ stored_bytes d v ++ drop (size_of d) old → IsPut d v 0 old new
stored_put d v old new storable held is =
    let front = stored_bytes d v in
    let size : length front ≡ size_of d = stored_bytes_fill d v held in
    let end : 0 + length front ≡ size_of d = omega (arith, size) in
    record {
      bytes = front;
      size = size;
      hold = ap (λ o. unwrap_or o (Number (pos 0))) (stored_is_loaded d v storable held);
      put = is ∙ ap (λ k. front ++ drop k old) (sym end);
    }
