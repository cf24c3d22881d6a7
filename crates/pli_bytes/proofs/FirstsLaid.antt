-- The values laid down with which scalars begin: those of bytes that are all the same, of one element more and of one member more.
use Rattle.std.proofs.Common.{◌≡◌, ℕ, zero, suc, ◌+◌, ◌-◌, ◌*◌, ◌<◌, ◌≤◌, true, List, [], ◌++◌, map, length, take, drop, get_or, replicate, refl, sym, ap, ◌∙◌, subst, arith, length-drop}
use Rattle.std.specs.Int.{next_multiple_of}
use Rattle.std.proofs.lemmas.List.{drop-drop, length-replicate, length-take-le, nil_from_length, take_all, take_at}
use borrow.Rule.Slice.PartMut.{put_mid}
use Rattle.pli_map.specs.declared.description.Bounds.{Bounds}
use Rattle.pli_map.specs.declared.description.Description.{Description}
use Rattle.pli_map.specs.Description as tree
use Rattle.pli_map.specs.Parts.{moved}
use Rattle.pli_map.specs.Scalars.{scalars_in, scalars_of}
use Rattle.pli_map.specs.Sizes.{alignment_of, count_of, size_of, end_after, stride_of}
use Rattle.pli_map.specs.Values.{first_values, first_values_of}
use Rattle.pli_map.specs.views.DescriptionView.{description_view, members_view}
use Rattle.pli_map.proofs.FirstHeld.{firsts_held}
use Rattle.pli_value.specs.Value.{Value}
use Rattle.pli_bytes.specs.answers.Laying.{begins_with, LaidAt}
use Rattle.pli_bytes.specs.Contents.{scalars_at, values_of, with_bytes_at}
use Rattle.pli_bytes.proofs.FilledBytes.{filled_begins}
use Rattle.pli_bytes.proofs.HeldValues.{held_length}
use Rattle.pli_bytes.proofs.Kept.{values_at, values_moved}
use Rattle.pli_bytes.proofs.Laid.{laid_element, laid_member, laid_none, LaidElements}
use Rattle.pli_bytes.proofs.PartLists.{firsts_more, one_repeated, repeated}
use Rattle.pli_bytes.proofs.PartsOfBytes.{same_values}
use Rattle.pli_bytes.proofs.PutBytes.{before_put, after_put, from_put, length_put}
use Rattle.pli_bytes.proofs.Scalars.{counted, scalars_counted}

-- ---- bytes that are all the same

-- bytes put hold what they hold elsewhere
laid_bytes : (at : ℕ) (d : tree.Description) (vs : List Value) (bytes old new : List ℕ) → length bytes ≡ size_of d → at + size_of d ≤ length old → values_of d bytes ≡ vs
    → new ≡ with_bytes_at at bytes old → LaidAt at d vs old new
laid_bytes at d vs bytes old new size inside hold is =
    let rest = drop (at + length bytes) old in
    let begins : at ≤ length old = omega (arith, inside) in
    let whole : at + length bytes ≤ length old = omega (arith, inside, size) in
    let here : drop at new ≡ bytes ++ rest = ap (drop at) is ∙ from_put at bytes old begins in
    let front : take (size_of d) (bytes ++ rest) ≡ take (size_of d) bytes =
    take_at bytes rest (size_of d) size ∙ sym (take_all (size_of d) bytes (omega (arith, size))) in
    record {
      values = values_moved at (scalars_at d) new ∙ ap (values_of d) here ∙ same_values d (bytes ++ rest) bytes front ∙ hold;
      front = ap (take at) is ∙ before_put at bytes old begins;
      back = ap (λ n. drop (at + n) new) (sym size) ∙ ap (drop (at + length bytes)) is ∙ after_put at bytes old begins ∙ ap (λ n. drop (at + n) old) size;
      size = ap length is ∙ length_put at bytes old whole;
    }

pub first_filled : (at : ℕ) (d : tree.Description) (byte size : ℕ) (old new : List ℕ) → begins_with byte d ≡ true → at + size_of d ≤ length old → size ≡ size_of d
    → new ≡ with_bytes_at at (replicate size byte) old → LaidAt at d (first_values d) old new
first_filled at d byte size old new begins inside size_is is =
    laid_bytes at d (first_values d) (replicate (size_of d) byte) old new (length-replicate (size_of d) byte) inside (filled_begins byte d begins)
    (is ∙ ap (λ n. with_bytes_at at (replicate n byte) old) size_is)

-- what a part of bytes becomes that is filled
pub part_filled : (at size byte : ℕ) (old filled : List ℕ) → at + size ≤ length old → filled ≡ replicate (length (take (at + size - at) (drop at old))) byte
    → put_mid at (at + size - at) old filled ≡ with_bytes_at at (replicate size byte) old
part_filled at size byte old filled inside is =
    let count : at + size - at ≡ size = omega arith in
    let left : length (take (at + size - at) (drop at old)) ≡ size =
    omega (arith, count, length-take-le (at + size - at) (drop at old) (omega (arith, inside, length-drop at old))) in
    let all : filled ≡ replicate size byte = is ∙ ap (λ n. replicate n byte) left in
    let end : length (replicate size byte) ≡ at + size - at = omega (arith, length-replicate size byte) in
    ap (λ l. take at old ++ (l ++ drop (at + size - at) (drop at old))) all ∙ ap (λ l. take at old ++ (replicate size byte ++ l)) (drop-drop (at + size - at) at old ∙ ap (λ n. drop (at + n) old) (sym end))

-- ---- no scalars

pub first_of_nothing : (at : ℕ) (d : tree.Description) (bytes : List ℕ) → scalars_in d ≡ 0 → LaidAt at d (first_values d) bytes bytes
first_of_nothing at d bytes none =
    let values : length (first_values d) ≡ 0 = held_length (scalars_of d) (first_values d) (firsts_held d) ∙ scalars_counted d ∙ none in
    let places : scalars_at d ≡ [] = nil_from_length (scalars_at d) (counted d ∙ none) in
    record {
      values = ap (λ ss. values_at (map (moved at) ss) bytes) places ∙ sym (nil_from_length (first_values d) values);
      front = refl;
      back = refl;
      size = refl;
    }

-- ---- elements

-- so many elements hold the values with which they begin
abbrev pub FirstElements : (at : ℕ) (element : tree.Description) (count : ℕ) (old new : List ℕ) → Type 0
FirstElements at element count old new = LaidElements at element count (repeated count (first_values element)) old new

first_elements : (at : ℕ) (element : tree.Description) (bytes : List ℕ) → FirstElements at element 0 bytes bytes
first_elements at element bytes = laid_none at (at + 0 * stride_of element) bytes

pub first_element : (at : ℕ) (element : tree.Description) (count : ℕ) (old between new : List ℕ) → FirstElements at element count old between
    → LaidAt (at + count * stride_of element) element (first_values element) between new → FirstElements at element (count + 1) old new
first_element at element count old between new before one =
    let vs = first_values element in
    subst (λ ws. LaidElements at element (count + 1) ws old new) (sym (one_repeated count vs))
    (laid_element at element count (repeated count vs) vs old between new before one)

pub first_array : (at : ℕ) (bounds : List Bounds) (element : tree.Description) (count : ℕ) (old new : List ℕ) → count ≡ count_of bounds → FirstElements at element count old new
    → LaidAt at (tree.Array bounds element) (first_values (tree.Array bounds element)) old new
first_array at bounds element count old new all first = subst (λ n. FirstElements at element n old new) all first

-- elements that take no bytes are all the first
pub first_in_place : (at : ℕ) (bounds : List Bounds) (element : tree.Description) (old new : List ℕ) → stride_of element ≡ 0 → 0 < count_of bounds
    → LaidAt at element (first_values element) old new → LaidAt at (tree.Array bounds element) (first_values (tree.Array bounds element)) old new
first_in_place at bounds element old new none some first =
    first_array at bounds element (suc (count_of bounds - 1)) old new (omega (arith, some)) (in_place (count_of bounds - 1))
  where
    at_once : (n : ℕ) (from : List ℕ) → LaidAt at element (first_values element) from new → LaidAt (at + n * stride_of element) element (first_values element) from new
    at_once n from laid =
        let nothing : n * stride_of element ≡ n * 0 = ap (λ k. n * k) none in
        let here : at ≡ at + n * stride_of element = omega (arith, nothing) in
        subst (λ k. LaidAt k element (first_values element) from new) here laid

    still : LaidAt at element (first_values element) new new
    still = record { values = first.values; front = refl; back = refl; size = refl }

    in_place : (n : ℕ) → FirstElements at element (suc n) old new
    in_place zero = first_element at element 0 old old new (first_elements at element old) (at_once 0 old first)
    in_place (suc n) =
        let next : suc n + 1 ≡ suc (suc n) = omega arith in
        subst (λ k. FirstElements at element k old new) next (first_element at element (suc n) old new new (in_place n) (at_once (suc n) new still))

-- ---- members

module _ (at : ℕ) (xs : List Description) (i : ℕ) (x : Description) (within : i < length xs) (is : x ≡ get_or xs i x) where
  pub first_member : (start : ℕ) (old between new : List ℕ) → start ≡ next_multiple_of (end_after 0 (members_view (take i xs))) (alignment_of (description_view x))
      → LaidAt at (tree.Structure (members_view (take i xs))) (first_values_of (members_view (take i xs))) old between
      → LaidAt (at + start) (description_view x) (first_values (description_view x)) between new
      → LaidAt at (tree.Structure (members_view (take (i + 1) xs))) (first_values_of (members_view (take (i + 1) xs))) old new
  first_member start old between new start_is before one =
      let vs = first_values_of (members_view (take i xs)) in
      let ws = first_values (description_view x) in
      let more : first_values_of (members_view (take (i + 1) xs)) ≡ vs ++ ws = firsts_more xs i x within is in
      subst (λ us. LaidAt at (tree.Structure (members_view (take (i + 1) xs))) us old new) (sym more)
      (laid_member at xs i x vs ws old between new within is before (subst (λ n. LaidAt (at + n) (description_view x) ws between new) start_is one))
