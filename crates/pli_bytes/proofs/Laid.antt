-- Values laid down one after the other are there in the end.
use Rattle.std.proofs.Common.{◌≡◌, ℕ, zero, suc, ◌+◌, ◌*◌, ◌<◌, ◌≤◌, true, List, [], ◌∷◌, ◌++◌, map, length, take, get_or, refl, ap, sym, ◌∙◌, subst, arith, append-nil, append_assoc}
use Rattle.std.specs.Int.{next_multiple_of}
use Rattle.std.proofs.lemmas.List.{map-append}
use Rattle.pli_map.specs.Description as tree
use Rattle.pli_map.specs.declared.description.Description.{Description}
use Rattle.pli_map.specs.Parts.{PlacedPart, moved}
use Rattle.pli_map.specs.Scalars.{is_scalar}
use Rattle.pli_map.specs.Sizes.{alignment_of, size_of, end_after, stride_of}
use Rattle.pli_map.proofs.Places.{fits_stride}
use Rattle.pli_map.specs.views.DescriptionView.{description_view, members_view}
use Rattle.pli_value.specs.Value.{Value}
use Rattle.pli_bytes.specs.answers.Laying.{Laid, LaidAt}
use Rattle.pli_bytes.specs.Changes.{IsPut}
use Rattle.pli_bytes.specs.Contents.{spread, scalars_at, scalars_after, value_in, values_of}
use Rattle.pli_bytes.proofs.Kept.{values_at, kept_before}
use Rattle.pli_bytes.proofs.PutBytes.{less_front, less_back}
use Rattle.pli_bytes.proofs.PutValues.{put_value, put_before, put_after, put_length}
use Rattle.pli_bytes.proofs.Rising.{Rise, rise_ends, rise_wider, rise_moved, rise_spread, rises, rises_after}
use Rattle.pli_bytes.proofs.Scalars.{scalar_moved}
use Rattle.pli_bytes.proofs.Split.{not_moved, moved_twice, spread_more}

pub laid_none : (low high : ℕ) (bytes : List ℕ) → Laid low [] high [] bytes bytes
laid_none low high bytes = record { values = refl; front = refl; back = refl; size = refl }

pub laid_wider : (less low : ℕ) (ss : List PlacedPart) (high more : ℕ) (vs : List Value) (old new : List ℕ) → less ≤ low → high ≤ more → Laid low ss high vs old new
    → Laid less ss more vs old new
laid_wider less low ss high more vs old new a b l = record {
  values = l.values;
  front = less_front less low new old a l.front;
  back = less_back high more new old b l.back;
  size = l.size;
}

pub laid_both : (low : ℕ) (ss : List PlacedPart) (middle : ℕ) (ts : List PlacedPart) (high : ℕ) (vs ws : List Value) (old between new : List ℕ)
    → Rise low ss middle → Rise middle ts high → Laid low ss middle vs old between → Laid middle ts high ws between new → Laid low (ss ++ ts) high (vs ++ ws) old new
laid_both low ss middle ts high vs ws old between new rise more first second =
    let kept : values_at ss new ≡ vs = kept_before low ss middle new between rise second.front ∙ first.values in
    record {
      values = map-append (value_in new) ss ts ∙ ap (λ l. l ++ values_at ts new) kept ∙ ap (λ l. vs ++ l) second.values;
      front = less_front low middle new between (rise_ends low ss middle rise) second.front ∙ first.front;
      back = second.back ∙ less_back middle high between old (rise_ends middle ts high more) first.back;
      size = second.size ∙ first.size;
    }

-- ---- a description that stands after so many bytes

pub laid_scalar : (at : ℕ) (d : tree.Description) (v : Value) (old new : List ℕ) → is_scalar d ≡ true → at + size_of d ≤ length old → IsPut d v at old new
    → LaidAt at d (v ∷ []) old new
laid_scalar at d v old new scalar inside put =
    record {
      values = ap (λ ss. values_at ss new) (scalar_moved at d scalar) ∙ ap (λ w. w ∷ []) (put_value d v at old new inside put);
      front = put_before d v at old new inside put;
      back = put_after d v at old new inside put;
      size = put_length d v at old new inside put;
    }

-- the whole is laid
pub laid_whole : (d : tree.Description) (vs : List Value) (old new : List ℕ) → LaidAt 0 d vs old new → values_of d new ≡ vs
laid_whole d vs old new l = ap (λ ss. values_at ss new) (sym (not_moved (scalars_at d))) ∙ l.values

-- where each description after the first byte is moved, the scalars of the whole are
rises_at : (at : ℕ) (d : tree.Description) → Rise at (map (moved at) (scalars_at d)) (at + size_of d)
rises_at at d =
    rise_wider at (at + 0) (map (moved at) (scalars_at d)) (at + size_of d) (at + size_of d) (omega arith) (omega arith) (rise_moved at 0 (scalars_at d) (size_of d) (rises d))

-- ---- elements

-- so many elements
abbrev pub LaidElements : (at : ℕ) (element : tree.Description) (count : ℕ) (vs : List Value) (old new : List ℕ) → Type 0
LaidElements at element count vs old new = Laid at (map (moved at) (spread 0 (stride_of element) count (scalars_at element))) (at + count * stride_of element) vs old new

one_more : (at stride count : ℕ) (ss : List PlacedPart)
    → map (moved at) (spread 0 stride (count + 1) ss) ≡ map (moved at) (spread 0 stride count ss) ++ map (moved (at + count * stride)) ss
one_more at stride count ss =
    let first = map (moved at) (spread 0 stride count ss) in
    let place : at + (0 + count * stride) ≡ at + count * stride = omega arith in
    ap (map (moved at)) (spread_more 0 stride count ss) ∙ map-append (moved at) (spread 0 stride count ss) (map (moved (0 + count * stride)) ss)
    ∙ ap (λ ts. first ++ ts) (moved_twice at (0 + count * stride) ss) ∙ ap (λ n. first ++ map (moved n) ss) place

pub laid_element : (at : ℕ) (element : tree.Description) (count : ℕ) (vs ws : List Value) (old between new : List ℕ) → LaidElements at element count vs old between
    → LaidAt (at + count * stride_of element) element ws between new → LaidElements at element (count + 1) (vs ++ ws) old new
laid_element at element count vs ws old between new before one =
    let stride = stride_of element in
    let size = size_of element in
    let ss = scalars_at element in
    let middle = at + count * stride in
    let end = at + (count + 1) * stride in
    let next : middle + stride ≡ end = omega arith in
    let first = map (moved at) (spread 0 stride count ss) in
    let last = map (moved middle) ss in
    let spreads = rise_moved at 0 (spread 0 stride count ss) (0 + count * stride) (rise_spread 0 stride count ss size (fits_stride element) (rises element)) in
    let rise : Rise at first middle = rise_wider at (at + 0) first (at + (0 + count * stride)) middle (omega arith) (omega arith) spreads in
    let further : middle + size ≤ end = omega (arith, next, fits_stride element) in
    let rest : Rise middle last end = rise_wider middle middle last (middle + size) end (omega arith) further (rises_at middle element) in
    let more : Laid middle last end ws between new = laid_wider middle middle last (middle + size) end ws between new (omega arith) further one in
    subst (λ ts. Laid at ts end (vs ++ ws) old new) (sym (one_more at stride count ss)) (laid_both at first middle last end vs ws old between new rise rest before more)

-- ---- members

after_one : (at : ℕ) (xs : List Description) (i : ℕ) (x : Description) → i < length xs → x ≡ get_or xs i x
    → scalars_after at (members_view (take (suc i) xs))
    ≡ scalars_after at (members_view (take i xs))
    ++ map (moved (next_multiple_of (end_after at (members_view (take i xs))) (alignment_of (description_view x)))) (scalars_at (description_view x))
after_one at [] i x within is = absurd (omega (arith, within))
after_one at (y ∷ ys) zero x within is =
    ap (λ z. scalars_after at (members_view (z ∷ []))) (sym is) ∙ append-nil (map (moved (next_multiple_of at (alignment_of (description_view x)))) (scalars_at (description_view x)))
after_one at (y ∷ ys) (suc i) x within is =
    let d = description_view y in
    let start = next_multiple_of at (alignment_of d) in
    let end = start + size_of d in
    let first = map (moved start) (scalars_at d) in
    let last = map (moved (next_multiple_of (end_after end (members_view (take i ys))) (alignment_of (description_view x)))) (scalars_at (description_view x)) in
    ap (λ ts. first ++ ts) (after_one end ys i x (omega (arith, within)) is) ∙ sym (append_assoc first (scalars_after end (members_view (take i ys))) last)

end_one : (at : ℕ) (xs : List Description) (i : ℕ) (x : Description) → i < length xs → x ≡ get_or xs i x
    → end_after at (members_view (take (suc i) xs))
    ≡ next_multiple_of (end_after at (members_view (take i xs))) (alignment_of (description_view x)) + size_of (description_view x)
end_one at [] i x within is = absurd (omega (arith, within))
end_one at (y ∷ ys) zero x within is = ap (λ z. end_after at (members_view (z ∷ []))) (sym is)
end_one at (y ∷ ys) (suc i) x within is =
    end_one (next_multiple_of at (alignment_of (description_view y)) + size_of (description_view y)) ys i x (omega (arith, within)) is

-- the end of the first members, with one more
pub end_more : (at : ℕ) (xs : List Description) (i : ℕ) (x : Description) → i < length xs → x ≡ get_or xs i x
    → end_after at (members_view (take (i + 1) xs))
    ≡ next_multiple_of (end_after at (members_view (take i xs))) (alignment_of (description_view x)) + size_of (description_view x)
end_more at xs i x within is =
    let e : i + 1 ≡ suc i = omega arith in
    ap (λ n. end_after at (members_view (take n xs))) e ∙ end_one at xs i x within is

-- these members
abbrev pub LaidMembers : (at : ℕ) (ds : tree.Members) (vs : List Value) (old new : List ℕ) → Type 0
LaidMembers at ds vs old new = Laid at (map (moved at) (scalars_after 0 ds)) (at + end_after 0 ds) vs old new

pub laid_member : (at : ℕ) (xs : List Description) (i : ℕ) (x : Description) (vs ws : List Value) (old between new : List ℕ) → i < length xs → x ≡ get_or xs i x
    → LaidMembers at (members_view (take i xs)) vs old between
    → LaidAt (at + next_multiple_of (end_after 0 (members_view (take i xs))) (alignment_of (description_view x))) (description_view x) ws between new
    → LaidMembers at (members_view (take (i + 1) xs)) (vs ++ ws) old new
laid_member at xs i x vs ws old between new within is before one =
    let d = description_view x in
    let ds = members_view (take i xs) in
    let end = end_after 0 ds in
    let start = next_multiple_of end (alignment_of d) in
    let first = map (moved at) (scalars_after 0 ds) in
    let last = map (moved (at + start)) (scalars_at d) in
    let begins : end ≤ start = omega arith in
    let up : at + end ≤ at + start = omega (arith, begins) in
    let rise : Rise at first (at + start) =
    rise_wider at (at + 0) first (at + end) (at + start) (omega arith) up (rise_moved at 0 (scalars_after 0 ds) end (rises_after 0 ds)) in
    let front : Laid at first (at + start) vs old between = laid_wider at at first (at + end) (at + start) vs old between (omega arith) up before in
    let both = laid_both at first (at + start) last (at + start + size_of d) vs ws old between new rise (rises_at (at + start) d) front one in
    let e : i + 1 ≡ suc i = omega arith in
    let places : map (moved at) (scalars_after 0 (members_view (take (i + 1) xs))) ≡ first ++ last =
    ap (λ n. map (moved at) (scalars_after 0 (members_view (take n xs)))) e ∙ ap (map (moved at)) (after_one 0 xs i x within is)
    ∙ map-append (moved at) (scalars_after 0 ds) (map (moved start) (scalars_at d)) ∙ ap (λ ts. first ++ ts) (moved_twice at start (scalars_at d)) in
    let ends : at + start + size_of d ≡ at + end_after 0 (members_view (take (i + 1) xs)) = omega (arith, end_more 0 xs i x within is) in
    subst (λ ts. Laid at ts (at + end_after 0 (members_view (take (i + 1) xs))) (vs ++ ws) old new) (sym places)
    (subst (λ n. Laid at (first ++ last) n (vs ++ ws) old new) ends both)
