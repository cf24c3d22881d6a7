-- The scalars of a part stand together among those of the whole, after those that end before it and before those that begin after it.
use Rattle.std.proofs.Common.{◌≡◌, ℕ, zero, suc, ◌+◌, ◌-◌, ◌*◌, ◌/◌, ◌%◌, ◌<◌, ◌≤◌, Bool, true, false, Some, None, List, [], ◌∷◌, ◌++◌, map, length, if◌then◌else◌, refl, ap, sym, ◌∙◌, subst, arith, inl, inr, append-nil, append_assoc, length-append}
use Rattle.std.specs.Int.{next_multiple_of}
use Rattle.std.proofs.lemmas.Bool.{ltb-true, ltb-false}
use Rattle.std.proofs.lemmas.List.{length-map, map-append}
use Rattle.std.proofs.lemmas.Nat.{div-add-mod'}
use Rattle.std.proofs.lemmas.Option.{none-some, same_Some}
use Rattle.pli_map.specs.Description.{Description, FixedBinary, Character, Varying, Bit, Pointer, Offset, Area, Array, Structure, Members, NoMembers, MemberThen}
use Rattle.pli_map.specs.Parts.{PlacedPart, moved}
use Rattle.pli_map.specs.Scalars.{stands_here, first_scalar, scalar_after}
use Rattle.pli_map.specs.Sizes.{count_of, alignment_of, size_of, end_after, stride_of}
use Rattle.pli_map.proofs.Places.{fits_stride}
use Rattle.pli_map.proofs.ScalarPlaces.{here, in_array, in_structure, in_members}
use Rattle.pli_bytes.specs.Contents.{spread, scalars_at, scalars_after}
use Rattle.pli_bytes.proofs.Rising.{Rise, rise_wider, rise_both, rise_moved, rise_spread, rises, rises_after}
use Rattle.pli_bytes.proofs.Scalars.{spread_length, counted}

-- among places from one byte to another stand, after so many, those of a part at an offset
pub record SplitAt (low : ℕ) (ss : List PlacedPart) (high offset : ℕ) (part : Description) (k : ℕ) : Type 0 where
  pub before : List PlacedPart
  pub after : List PlacedPart
  pub is : ss ≡ before ++ (map (moved offset) (scalars_at part) ++ after)
  pub count : length before ≡ k
  pub ends : Rise low before offset
  pub begins : Rise (offset + size_of part) after high

-- ---- moved places

abbrev place : ℕ → Description → PlacedPart
place offset d = record { offset = offset; description = d }

pub not_moved : (ss : List PlacedPart) → map (moved 0) ss ≡ ss
not_moved [] = refl
not_moved (s ∷ ss) =
    let same : 0 + s.offset ≡ s.offset = omega arith in
    ap (λ n. place n s.description ∷ map (moved 0) ss) same ∙ ap (λ ts. s ∷ ts) (not_moved ss)

pub moved_twice : (m n : ℕ) (ss : List PlacedPart) → map (moved m) (map (moved n) ss) ≡ map (moved (m + n)) ss
moved_twice m n [] = refl
moved_twice m n (s ∷ ss) =
    let same : m + (n + s.offset) ≡ m + n + s.offset = omega arith in
    ap (λ o. place o s.description ∷ map (moved m) (map (moved n) ss)) same ∙ ap (λ ts. moved (m + n) s ∷ ts) (moved_twice m n ss)

-- ---- one split among more

pub split_moved : (m low : ℕ) (ss : List PlacedPart) (high offset : ℕ) (part : Description) (k : ℕ) → SplitAt low ss high offset part k
    → SplitAt (m + low) (map (moved m) ss) (m + high) (m + offset) part k
split_moved m low ss high offset part k s =
    let mine = map (moved offset) (scalars_at part) in
    let ends = rise_moved m low s.before offset s.ends in
    let size = size_of part in
    let begins = rise_moved m (offset + size) s.after high s.begins in
    record {
      before = map (moved m) s.before;
      after = map (moved m) s.after;
      is = ap (map (moved m)) s.is ∙ map-append (moved m) s.before (mine ++ s.after)
          ∙ ap (λ ts. map (moved m) s.before ++ ts) (map-append (moved m) mine s.after ∙ ap (λ ts. ts ++ map (moved m) s.after) (moved_twice m offset (scalars_at part)));
      count = length-map s.before (moved m) ∙ s.count;
      ends = ends;
      begins = rise_wider (m + offset + size) (m + (offset + size)) (map (moved m) s.after) (m + high) (m + high) (omega arith) (omega arith) begins;
    }

pub split_wider : (less low : ℕ) (ss : List PlacedPart) (high more offset : ℕ) (part : Description) (k : ℕ) → less ≤ low → high ≤ more → SplitAt low ss high offset part k
    → SplitAt less ss more offset part k
split_wider less low ss high more offset part k a b s =
    let end = offset + size_of part in
    record {
      before = s.before;
      after = s.after;
      is = s.is;
      count = s.count;
      ends = rise_wider less low s.before offset offset a (omega arith) s.ends;
      begins = rise_wider end end s.after high more (omega arith) b s.begins;
    }

-- after others
pub split_after : (low : ℕ) (front : List PlacedPart) (middle : ℕ) (ss : List PlacedPart) (high offset : ℕ) (part : Description) (k : ℕ) → Rise low front middle
    → SplitAt middle ss high offset part k → SplitAt low (front ++ ss) high offset part (length front + k)
split_after low front middle ss high offset part k h s =
    let rest = map (moved offset) (scalars_at part) ++ s.after in
    record {
      before = front ++ s.before;
      after = s.after;
      is = ap (λ ts. front ++ ts) s.is ∙ sym (append_assoc front s.before rest);
      count = length-append front s.before ∙ ap (λ n. length front + n) s.count;
      ends = rise_both low front middle s.before offset h s.ends;
      begins = s.begins;
    }

-- before others
pub split_before : (low : ℕ) (ss : List PlacedPart) (middle : ℕ) (back : List PlacedPart) (high offset : ℕ) (part : Description) (k : ℕ) → Rise middle back high
    → SplitAt low ss middle offset part k → SplitAt low (ss ++ back) high offset part k
split_before low ss middle back high offset part k h s =
    let mine = map (moved offset) (scalars_at part) in
    record {
      before = s.before;
      after = s.after ++ back;
      is = ap (λ ts. ts ++ back) s.is ∙ append_assoc s.before (mine ++ s.after) back ∙ ap (λ ts. s.before ++ ts) (append_assoc mine s.after back);
      count = s.count;
      ends = s.ends;
      begins = rise_both (offset + size_of part) s.after middle back high s.begins h;
    }

-- ---- elements

pub spread_split : (at stride i rest : ℕ) (ss : List PlacedPart)
    → spread at stride (i + suc rest) ss ≡ spread at stride i ss ++ (map (moved (at + i * stride)) ss ++ spread (at + suc i * stride) stride rest ss)
spread_split at stride zero rest ss =
    let count : 0 + suc rest ≡ suc rest = omega arith in
    let here : at ≡ at + 0 * stride = omega arith in
    let next : at + stride ≡ at + 1 * stride = omega arith in
    ap (λ n. spread at stride n ss) count ∙ ap (λ n. map (moved n) ss ++ spread (at + stride) stride rest ss) here
    ∙ ap (λ n. map (moved (at + 0 * stride)) ss ++ spread n stride rest ss) next
spread_split at stride (suc i) rest ss =
    let count : suc i + suc rest ≡ suc (i + suc rest) = omega arith in
    let here : at + stride + i * stride ≡ at + suc i * stride = omega arith in
    let next : at + stride + suc i * stride ≡ at + suc (suc i) * stride = omega arith in
    let first = map (moved at) ss in
    let others = spread (at + stride) stride i ss in
    ap (λ n. spread at stride n ss) count ∙ ap (λ ts. first ++ ts) (spread_split (at + stride) stride i rest ss)
    ∙ ap (λ n. first ++ (others ++ (map (moved n) ss ++ spread (at + stride + suc i * stride) stride rest ss))) here
    ∙ ap (λ n. first ++ (others ++ (map (moved (at + suc i * stride)) ss ++ spread n stride rest ss))) next
    ∙ sym (append_assoc first others (map (moved (at + suc i * stride)) ss ++ spread (at + suc (suc i) * stride) stride rest ss))

-- with one element more
pub spread_more : (at stride count : ℕ) (ss : List PlacedPart) → spread at stride (count + 1) ss ≡ spread at stride count ss ++ map (moved (at + count * stride)) ss
spread_more at stride count ss =
    spread_split at stride count 0 ss ∙ ap (λ ts. spread at stride count ss ++ ts) (append-nil (map (moved (at + count * stride)) ss))

element_split : (stride count i : ℕ) (ss : List PlacedPart) (size offset : ℕ) (part : Description) (k : ℕ) → i < count → size ≤ stride → Rise 0 ss size
    → SplitAt 0 ss size offset part k → SplitAt 0 (spread 0 stride count ss) (count * stride) (i * stride + offset) part (i * length ss + k)
element_split stride count i ss size offset part k below fits h s =
    let rest = count - suc i in
    let all : i + suc rest ≡ count = omega arith in
    let at = 0 + i * stride in
    let next = 0 + suc i * stride in
    let front = spread 0 stride i ss in
    let back = spread next stride rest ss in
    let ends : next + rest * stride ≡ (i + suc rest) * stride = omega arith in
    let one : at + stride ≡ next = omega arith in
    let here = split_wider at (at + 0) (map (moved at) ss) (at + size) next (at + offset) part k (omega arith) (omega (arith, fits, one)) (split_moved at 0 ss size offset part k s) in
    let among = split_after 0 front at (map (moved at) ss ++ back) (next + rest * stride) (at + offset) part k (rise_spread 0 stride i ss size fits h)
    (split_before at (map (moved at) ss) next back (next + rest * stride) (at + offset) part k (rise_spread next stride rest ss size fits h) here) in
    let place_is : at + offset ≡ i * stride + offset = omega arith in
    let number : length front + k ≡ i * length ss + k = ap (λ n. n + k) (spread_length 0 stride i ss) in
    let whole : SplitAt 0 (spread 0 stride (i + suc rest) ss) (next + rest * stride) (at + offset) part (length front + k) =
    subst (λ ts. SplitAt 0 ts (next + rest * stride) (at + offset) part (length front + k)) (sym (spread_split 0 stride i rest ss)) among in
    subst (λ n. SplitAt 0 (spread 0 stride n ss) (n * stride) (i * stride + offset) part (i * length ss + k)) all
    (subst (λ e. SplitAt 0 (spread 0 stride (i + suc rest) ss) e (i * stride + offset) part (i * length ss + k)) ends
    (subst (λ o. SplitAt 0 (spread 0 stride (i + suc rest) ss) (next + rest * stride) o part (i * length ss + k)) place_is
    (subst (λ n. SplitAt 0 (spread 0 stride (i + suc rest) ss) (next + rest * stride) (at + offset) part n) number whole)))

-- ---- the part that is found

split_itself : (whole : Description) (o : ℕ) (part : Description) (k : ℕ) → stands_here whole o part ≡ true → 0 ≡ k → SplitAt 0 (scalars_at whole) (size_of whole) o part k
split_itself whole o part k stands first =
    let h = here whole o part stands in
    let ss = scalars_at whole in
    let all : SplitAt 0 ss (size_of whole) 0 whole 0 = record {
      before = [];
      after = [];
      is = sym (append-nil (map (moved 0) ss) ∙ not_moved ss);
      count = refl;
      ends = omega arith;
      begins = omega arith;
    } in
    subst (λ p. SplitAt 0 ss (size_of whole) o p k) h.part_is
    (subst (λ n. SplitAt 0 ss (size_of whole) n whole k) (sym h.offset_is) (subst (λ n. SplitAt 0 ss (size_of whole) 0 whole n) first all))

alone_found : (stands : Bool) (k : ℕ) → (if stands then Some 0 else None) ≡ Some k → (stands ≡ true) × (0 ≡ k)
alone_found true k e = (refl, same_Some _ _ e)
alone_found false k e = absurd (none-some k e)

split_scalar : (whole : Description) (o : ℕ) (part : Description) (k : ℕ) → (if stands_here whole o part then Some 0 else None) ≡ Some k
    → SplitAt 0 (scalars_at whole) (size_of whole) o part k
split_scalar whole o part k e =
    let c = alone_found (stands_here whole o part) k e in
    split_itself whole o part k c.0 c.1

mutual
  pub split_found : (whole : Description) (o : ℕ) (part : Description) (k : ℕ) → first_scalar whole o part ≡ Some k → SplitAt 0 (scalars_at whole) (size_of whole) o part k
  split_found (FixedBinary p) o part k e = split_scalar (FixedBinary p) o part k e
  split_found (Character n) o part k e = split_scalar (Character n) o part k e
  split_found (Varying n) o part k e = split_scalar (Varying n) o part k e
  split_found (Bit n) o part k e = split_scalar (Bit n) o part k e
  split_found Pointer o part k e = split_scalar Pointer o part k e
  split_found Offset o part k e = split_scalar Offset o part k e
  split_found (Area n) o part k e = split_scalar (Area n) o part k e
  split_found (Array bs element) o part k e = elim (in_array bs element o part k e) [
    | inl c ↦ split_itself (Array bs element) o part k c.0 c.1
    | inr c ↦ let stride = stride_of element in
        let count = count_of bs in
        let ss = scalars_at element in
        let inner = split_found element (o % stride) part c.number c.rest_is in
        let below = ltb-true (o / stride) count c.passes in
        let among = element_split stride count (o / stride) ss (size_of element) (o % stride) part c.number below (fits_stride element) (rises element) inner in
        let number : o / stride * length ss + c.number ≡ k = ap (λ n. o / stride * n + c.number) (counted element) ∙ c.whole in
        subst (λ n. SplitAt 0 (spread 0 stride count ss) (count * stride) n part k) (div-add-mod' o stride)
        (subst (λ n. SplitAt 0 (spread 0 stride count ss) (count * stride) (o / stride * stride + o % stride) part n) number among)
  ]
  split_found (Structure members) o part k e = elim (in_structure members o part k e) [
    | inl c ↦ split_itself (Structure members) o part k c.0 c.1
    | inr rest ↦ split_among 0 members o part k rest
  ]

  pub split_among : (at : ℕ) (ds : Members) (o : ℕ) (part : Description) (k : ℕ) → scalar_after at ds o part ≡ Some k → SplitAt at (scalars_after at ds) (end_after at ds) o part k
  split_among at NoMembers o part k e = absurd (none-some k e)
  split_among at (MemberThen d ds) o part k e = elim (in_members at d ds o part k e) [
    | inl c ↦ let start = next_multiple_of at (alignment_of d) in
        let end = start + size_of d in
        let ss = map (moved start) (scalars_at d) in
        let low = ltb-false o start c.above in
        let place_is : start + (o - start) ≡ o = omega (arith, low) in
        let inner = split_moved start 0 (scalars_at d) (size_of d) (o - start) part k (split_found d (o - start) part k c.rest_is) in
        let wider = split_wider at (start + 0) ss end end (start + (o - start)) part k (omega arith) (omega arith) inner in
        subst (λ n. SplitAt at (ss ++ scalars_after end ds) (end_after end ds) n part k) place_is
        (split_before at ss end (scalars_after end ds) (end_after end ds) (start + (o - start)) part k (rises_after end ds) wider)
    | inr c ↦ let start = next_multiple_of at (alignment_of d) in
        let end = start + size_of d in
        let ss = map (moved start) (scalars_at d) in
        let inner = split_among end ds o part c.number c.rest_is in
        let first = rise_wider at (start + 0) ss end end (omega arith) (omega arith) (rise_moved start 0 (scalars_at d) (size_of d) (rises d)) in
        let number : length ss + c.number ≡ k = ap (λ n. n + c.number) (length-map (scalars_at d) (moved start) ∙ counted d) ∙ c.whole in
        subst (λ n. SplitAt at (ss ++ scalars_after end ds) (end_after end ds) o part n) number
        (split_after at ss end (scalars_after end ds) (end_after end ds) o part c.number first inner)
  ]
