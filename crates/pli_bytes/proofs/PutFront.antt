-- Bytes put at the front of those after an offset: a scalar that lies there is put, also where the last of its bytes stay.
use Rattle.std.proofs.Common.{◌≡◌, ℕ, ◌+◌, ◌-◌, ◌≤◌, Bool, true, false, List, [], ◌++◌, length, take, drop, ap, sym, ◌∙◌, arith, append-nil, append_assoc, length-append, length-drop}
use Rattle.std.proofs.lemmas.List.{drop_all, drop-append-le, drop-drop, length-take-le, take-append-drop, take_all}
use borrow.Rule.Slice.PartMut.{put_mid}
use Rattle.pli_map.specs.Description.{Description, Varying}
use Rattle.pli_map.specs.Sizes.{size_of}
use Rattle.pli_value.specs.Value.{Value, Characters}
use Rattle.pli_bytes.specs.Changes.{IsPut, PutOrSame, AppendedOrSame, IsTooLong}
use Rattle.pli_bytes.specs.Contents.{value_of, with_bytes_at}

-- all bytes from an offset on, and what they are once others have come back in their place
abbrev pub rest_from : (offset : ℕ) (bytes : List ℕ) → List ℕ
rest_from offset bytes = take (length bytes - offset) (drop offset bytes)

abbrev pub with_rest_from : (offset : ℕ) (bytes back : List ℕ) → List ℕ
with_rest_from offset bytes back = put_mid offset (length bytes - offset) bytes back

pub rest_from_is : (offset : ℕ) (bytes : List ℕ) → rest_from offset bytes ≡ drop offset bytes
rest_from_is offset bytes = take_all (length bytes - offset) (drop offset bytes) (omega (arith, length-drop offset bytes))

pub with_rest_from_is : (offset : ℕ) (bytes back : List ℕ) → with_rest_from offset bytes back ≡ take offset bytes ++ back
with_rest_from_is offset bytes back =
    let nothing : drop (length bytes - offset) (drop offset bytes) ≡ [] = drop_all (length bytes - offset) (drop offset bytes) (omega (arith, length-drop offset bytes)) in
    ap (λ l. take offset bytes ++ (back ++ l)) nothing ∙ ap (λ l. take offset bytes ++ l) (append-nil back)

-- ---- at no offset

-- the front of what a list begins with, and the rest of that, are what it begins with
front_stays : (front old : List ℕ) (size : ℕ) → length front ≤ size → size ≤ length old
    → front ++ drop (length front) old ≡ with_bytes_at 0 (front ++ drop (length front) (take size old)) old
front_stays front old size fits inside =
    let n = length front in
    let held = take size old in
    let held_size : length held ≡ size = length-take-le size old inside in
    let new = front ++ drop n held in
    let new_size : length new ≡ size = omega (arith, held_size, length-append front (drop n held), length-drop n held) in
    let end : 0 + length new ≡ size = omega (arith, new_size) in
    let rest : drop n held ++ drop size old ≡ drop n old =
    sym (drop-append-le n held (drop size old) (omega (arith, held_size))) ∙ ap (drop n) (take-append-drop size old) in
    ap (λ l. front ++ l) (sym rest) ∙ sym (append_assoc front (drop n held) (drop size old)) ∙ ap (λ k. new ++ drop k old) (sym end)

-- what is written at the front, with the bytes of the scalar that stay, is a value's
pub put_front : (d : Description) (v : Value) (front old new : List ℕ) → length front ≤ size_of d → size_of d ≤ length old
    → new ≡ front ++ drop (length front) old → value_of d (front ++ drop (length front) (take (size_of d) old)) ≡ v → IsPut d v 0 old new
put_front d v front old new fits inside is hold =
    let held = take (size_of d) old in
    let held_size : length held ≡ size_of d = length-take-le (size_of d) old inside in
    record {
      bytes = front ++ drop (length front) held;
      size = omega (arith, held_size, length-append front (drop (length front) held), length-drop (length front) held);
      hold = hold;
      put = is ∙ front_stays front old (size_of d) fits inside;
    }

-- ---- at an offset

-- what is put at no offset of all bytes from one on is put at that offset
put_further : (offset : ℕ) (new bytes back : List ℕ) → back ≡ with_bytes_at 0 new (rest_from offset bytes)
    → with_rest_from offset bytes back ≡ with_bytes_at offset new bytes
put_further offset new bytes back is =
    let end : 0 + length new ≡ length new = omega arith in
    let rest : drop (0 + length new) (rest_from offset bytes) ≡ drop (offset + length new) bytes =
    ap (λ n. drop n (rest_from offset bytes)) end ∙ ap (drop (length new)) (rest_from_is offset bytes) ∙ drop-drop (length new) offset bytes in
    with_rest_from_is offset bytes back ∙ ap (λ l. take offset bytes ++ l) is ∙ ap (λ l. take offset bytes ++ (new ++ l)) rest

pub put_after : (d : Description) (v : Value) (offset : ℕ) (bytes back : List ℕ) → IsPut d v 0 (rest_from offset bytes) back → IsPut d v offset bytes (with_rest_from offset bytes back)
put_after d v offset bytes back put =
    record { bytes = put.bytes; size = put.size; hold = put.hold; put = put_further offset put.bytes bytes back put.put }

-- what comes back as it was changes nothing
pub same_after : (offset : ℕ) (bytes back : List ℕ) → back ≡ rest_from offset bytes → with_rest_from offset bytes back ≡ bytes
same_after offset bytes back same =
    with_rest_from_is offset bytes back ∙ ap (λ l. take offset bytes ++ l) (same ∙ rest_from_is offset bytes) ∙ take-append-drop offset bytes

pub put_or_same_after : (b : Bool) (d : Description) (v : Value) (offset : ℕ) (bytes back : List ℕ) → PutOrSame b d v 0 (rest_from offset bytes) back
    → PutOrSame b d v offset bytes (with_rest_from offset bytes back)
put_or_same_after true d v offset bytes back put = put_after d v offset bytes back put
put_or_same_after false d v offset bytes back same = same_after offset bytes back same

pub appended_after : (b : Bool) (greatest offset : ℕ) (more : List ℕ) (room : ℕ) (bytes back : List ℕ)
    → AppendedOrSame b greatest 0 more room (rest_from offset bytes) back → AppendedOrSame b greatest offset more room bytes (with_rest_from offset bytes back)
appended_after true greatest offset more room bytes back a = record {
  text = a.text;
  was = ap (λ rest. value_of (Varying greatest) (take (2 + greatest) rest)) (sym (rest_from_is offset bytes)) ∙ a.was;
  put = put_after (Varying greatest) (Characters (a.text ++ more)) offset bytes back a.put;
  fits = a.fits;
}
appended_after false greatest offset more room bytes back same = same_after offset bytes back same

-- both are as long after an offset as at no offset of all bytes from that one on
pub too_long_after : (greatest offset : ℕ) (more : List ℕ) (room : ℕ) (bytes : List ℕ) → IsTooLong greatest 0 more room (rest_from offset bytes)
    → IsTooLong greatest offset more room bytes
too_long_after greatest offset more room bytes long = λ text holds fits.
    long text (ap (λ rest. value_of (Varying greatest) (take (2 + greatest) rest)) (rest_from_is offset bytes) ∙ holds) fits
