-- The scalar that begins on a byte: it is found by arithmetic, and lies within the bytes.
use Rattle.std.proofs.Common.{◌≡◌, ℕ, zero, suc, ◌+◌, ◌-◌, ◌*◌, ◌/◌, ◌%◌, ◌<◌, ◌≤◌, nat_eq, nat_lt, Bool, true, false, ◌&&◌, Option, Some, None, option_map, List, [], ◌∷◌, ◌++◌, map, if◌then◌else◌, refl, ap, sym, ◌∙◌, arith, inl, inr, true≢false}
use Rattle.std.specs.Int.{next_multiple_of}
use Rattle.std.proofs.lemmas.Bool.{and_parts, cases_lt, eq-eqb, eqb-true, lt-ltb, ltb-true, ne_eqb}
use Rattle.std.proofs.lemmas.Nat.{div-add-mod'}
use Rattle.std.proofs.lemmas.Option.{none-some, same_Some}
use Rattle.std.proofs.Math.Nat.{mod-lt, mul-le-mul_right}
use Rattle.pli_map.specs.Description.{Description, Array, Members, MemberThen}
use Rattle.pli_map.specs.declared.description.Bounds.{Bounds}
use Rattle.pli_map.specs.Parts.{PlacedPart, moved}
use Rattle.pli_map.specs.Sizes.{count_of, alignment_of, size_of, end_after, stride_of}
use Rattle.pli_map.proofs.Places.{fits_stride}
use Rattle.pli_bytes.specs.Contents.{begins_on, scalar_on, spread, scalars_at, scalars_after}
use Rattle.pli_bytes.proofs.Rising.{Rise, rise_ends, rise_wider, rise_moved, rise_spread, rises, rises_after}
use Rattle.pli_bytes.proofs.Split.{spread_split}

-- ---- among places that lie one after another

-- the first of two that is there
abbrev first_of : Option PlacedPart → Option PlacedPart → Option PlacedPart
first_of None other = other
first_of (Some s) other = Some s

of_first : (o : Option PlacedPart) → first_of o None ≡ o
of_first None = refl
of_first (Some s) = refl

and_false : (b : Bool) → (b && false) ≡ false
and_false true = refl
and_false false = refl

on_both : (offset : ℕ) (ss ts : List PlacedPart) → scalar_on offset (ss ++ ts) ≡ first_of (scalar_on offset ss) (scalar_on offset ts)
on_both offset [] ts = refl
on_both offset (s ∷ ss) ts = by (begins_on offset s) (on_both offset ss ts)
  where
    by : (b : Bool) → scalar_on offset (ss ++ ts) ≡ first_of (scalar_on offset ss) (scalar_on offset ts)
        → (if b then Some s else scalar_on offset (ss ++ ts)) ≡ first_of (if b then Some s else scalar_on offset ss) (scalar_on offset ts)
    by true rest = refl
    by false rest = rest

-- none begins before the first
pub on_below : (offset low : ℕ) (ss : List PlacedPart) (high : ℕ) → Rise low ss high → offset < low → scalar_on offset ss ≡ None
on_below offset low [] high h less = refl
on_below offset low (s ∷ ss) high h less =
    let apart : offset ≡ s.offset → ⊥ = λ e. omega (arith, e, less, h.0) in
    ap (λ b. if b && nat_lt 0 (size_of s.description) then Some s else scalar_on offset ss) (ne_eqb offset s.offset apart)
    ∙ on_below offset (s.offset + size_of s.description) ss high h.1 (omega (arith, less, h.0))

-- one that has its byte ends after it
pub on_past : (offset low : ℕ) (ss : List PlacedPart) (high : ℕ) → Rise low ss high → high ≤ offset → scalar_on offset ss ≡ None
on_past offset low [] high h past = refl
on_past offset low (s ∷ ss) high h past =
    by (nat_lt 0 (size_of s.description)) refl (on_past offset (s.offset + size_of s.description) ss high h.1 past)
  where
    by : (b : Bool) → nat_lt 0 (size_of s.description) ≡ b → scalar_on offset ss ≡ None → (if nat_eq offset s.offset && b then Some s else scalar_on offset ss) ≡ None
    by true e rest =
        let some = ltb-true 0 (size_of s.description) e in
        let end = rise_ends (s.offset + size_of s.description) ss high h.1 in
        let apart : offset ≡ s.offset → ⊥ = λ same. omega (arith, same, some, end, past) in
        ap (λ b. if b && true then Some s else scalar_on offset ss) (ne_eqb offset s.offset apart) ∙ rest
    by false e rest = ap (λ b. if b then Some s else scalar_on offset ss) (and_false (nat_eq offset s.offset)) ∙ rest

eq_moved : (m r o : ℕ) → nat_eq (m + r) (m + o) ≡ nat_eq r o
eq_moved m r o = by (nat_eq r o) refl
  where
    by : (b : Bool) → nat_eq r o ≡ b → nat_eq (m + r) (m + o) ≡ b
    by true e = let same = eqb-true r o e in eq-eqb (m + r) (m + o) (omega (arith, same))
    by false e =
        ne_eqb (m + r) (m + o) (λ same. let equal : r ≡ o = omega (arith, same) in true≢false (sym (eq-eqb r o equal) ∙ e))

-- places that are moved
on_moved : (m r : ℕ) (ss : List PlacedPart) → scalar_on (m + r) (map (moved m) ss) ≡ option_map (moved m) (scalar_on r ss)
on_moved m r [] = refl
on_moved m r (s ∷ ss) =
    ap (λ b. if b && nat_lt 0 (size_of s.description) then Some (moved m s) else scalar_on (m + r) (map (moved m) ss)) (eq_moved m r s.offset)
    ∙ by (begins_on r s) (on_moved m r ss)
  where
    by : (b : Bool) → scalar_on (m + r) (map (moved m) ss) ≡ option_map (moved m) (scalar_on r ss)
        → (if b then Some (moved m s) else scalar_on (m + r) (map (moved m) ss)) ≡ option_map (moved m) (if b then Some s else scalar_on r ss)
    by true rest = refl
    by false rest = rest

-- ---- elements

on_element : (stride count i : ℕ) (ss : List PlacedPart) (size r : ℕ) → size ≤ stride → Rise 0 ss size → i < count → r < stride
    → scalar_on (i * stride + r) (spread 0 stride count ss) ≡ option_map (moved (i * stride)) (scalar_on r ss)
on_element stride count i ss size r fits h below inside =
    let rest = count - suc i in
    let all : i + suc rest ≡ count = omega arith in
    let m = i * stride in
    let place : 0 + m ≡ m = omega arith in
    let next : 0 + suc i * stride ≡ m + stride = omega arith in
    let front = spread 0 stride i ss in
    let one = map (moved (0 + m)) ss in
    let back = spread (0 + suc i * stride) stride rest ss in
    let before : scalar_on (m + r) front ≡ None = on_past (m + r) 0 front (0 + m) (rise_spread 0 stride i ss size fits h) (omega arith) in
    let after : scalar_on (m + r) back ≡ None =
    on_below (m + r) (0 + suc i * stride) back (0 + suc i * stride + rest * stride) (rise_spread (0 + suc i * stride) stride rest ss size fits h) (omega (arith, inside, next)) in
    ap (λ n. scalar_on (m + r) (spread 0 stride n ss)) (sym all) ∙ ap (scalar_on (m + r)) (spread_split 0 stride i rest ss)
    ∙ on_both (m + r) front (one ++ back) ∙ ap (λ o. first_of o (scalar_on (m + r) (one ++ back))) before
    ∙ on_both (m + r) one back ∙ ap (first_of (scalar_on (m + r) one)) after ∙ of_first (scalar_on (m + r) one)
    ∙ ap (λ n. scalar_on (m + r) (map (moved n) ss)) place ∙ on_moved m r ss

quotient_below : (k n count : ℕ) → k < count * n → k / n < count
quotient_below k n count less = elim (cases_lt (k / n) count) [
  | inl h ↦ h
  | inr h ↦ absurd (omega (arith, less, div-add-mod' k n, mul-le-mul_right n h))
]

-- in which element, and where in it
pub record InElement (bounds : List Bounds) (element : Description) (offset : ℕ) : Type 0 where
  pub some : 0 < stride_of element
  pub below : offset / stride_of element < count_of bounds
  pub there :
      scalar_on offset (scalars_at (Array bounds element))
      ≡ option_map (moved (offset / stride_of element * stride_of element)) (scalar_on (offset % stride_of element) (scalars_at element))

pub on_in_array : (bounds : List Bounds) (element : Description) (offset : ℕ) → offset < count_of bounds * stride_of element → InElement bounds element offset
on_in_array bounds element offset inside =
    let all = from_stride (stride_of element) (fits_stride element) inside in
    record { some = all.0; below = all.1; there = all.2 }
  where
    from_stride : (w : ℕ) → size_of element ≤ w → offset < count_of bounds * w
        → (0 < w) × (offset / w < count_of bounds)
        × (scalar_on offset (spread 0 w (count_of bounds) (scalars_at element)) ≡ option_map (moved (offset / w * w)) (scalar_on (offset % w) (scalars_at element)))
    from_stride zero fits less =
        let none : count_of bounds * zero ≡ 0 = omega arith in
        absurd (omega (arith, less, none))
    from_stride (suc n) fits less =
        let left : offset % suc n < suc n = mod-lt offset (omega arith) in
        let below : offset / suc n < count_of bounds = quotient_below offset (suc n) (count_of bounds) less in (
          omega arith,
          below,
          ap (λ k. scalar_on k (spread 0 (suc n) (count_of bounds) (scalars_at element))) (sym (div-add-mod' offset (suc n)))
              ∙ on_element (suc n) (count_of bounds) (offset / suc n) (scalars_at element) (size_of element) (offset % suc n) fits (rises element) below left,
        )

-- ---- members

module _ (offset at : ℕ) (d : Description) (ds : Members) where
  abbrev start : ℕ
  start = next_multiple_of at (alignment_of d)

  abbrev own : List PlacedPart
  own = map (moved start) (scalars_at d)

  abbrev others : List PlacedPart
  others = scalars_after (start + size_of d) ds

  own_rise : Rise start own (start + size_of d)
  own_rise = rise_wider start (start + 0) own (start + size_of d) (start + size_of d) (omega arith) (omega arith) (rise_moved start 0 (scalars_at d) (size_of d) (rises d))

  others_rise : Rise (start + size_of d) others (end_after (start + size_of d) ds)
  others_rise = rises_after (start + size_of d) ds

  -- in none of the members from this one on
  pub on_before : offset < start → scalar_on offset (scalars_after at (MemberThen d ds)) ≡ None
  on_before less =
      on_both offset own others
      ∙ ap (λ o. first_of o (scalar_on offset others)) (on_below offset start own (start + size_of d) own_rise less)
      ∙ on_below offset (start + size_of d) others (end_after (start + size_of d) ds) others_rise (omega (arith, less))

  -- in this one
  pub on_first : start ≤ offset → offset < start + size_of d
      → scalar_on offset (scalars_after at (MemberThen d ds)) ≡ option_map (moved start) (scalar_on (offset - start) (scalars_at d))
  on_first from less =
      let whole : start + (offset - start) ≡ offset = omega (arith, from) in
      on_both offset own others
      ∙ ap (first_of (scalar_on offset own)) (on_below offset (start + size_of d) others (end_after (start + size_of d) ds) others_rise less)
      ∙ of_first (scalar_on offset own)
      ∙ ap (λ n. scalar_on n own) (sym whole) ∙ on_moved start (offset - start) (scalars_at d)

  -- in one of those after it
  pub on_others : start + size_of d ≤ offset → scalar_on offset (scalars_after at (MemberThen d ds)) ≡ scalar_on offset others
  on_others past =
      on_both offset own others
      ∙ ap (λ o. first_of o (scalar_on offset others)) (on_past offset start own (start + size_of d) own_rise past)

-- ---- where it lies

pub record LiesOn (low high offset : ℕ) (s : PlacedPart) : Type 0 where
  pub is : offset ≡ s.offset
  pub after : low ≤ s.offset
  pub before : s.offset + size_of s.description ≤ high

pub on_lies : (offset low : ℕ) (ss : List PlacedPart) (high : ℕ) (s : PlacedPart) → Rise low ss high → scalar_on offset ss ≡ Some s → LiesOn low high offset s
on_lies offset low [] high s h found = absurd (none-some s found)
on_lies offset low (t ∷ ss) high s h found =
    by (begins_on offset t) refl found (on_lies offset (t.offset + size_of t.description) ss high s h.1)
  where
    by : (b : Bool) → begins_on offset t ≡ b → (if b then Some t else scalar_on offset ss) ≡ Some s
        → (scalar_on offset ss ≡ Some s → LiesOn (t.offset + size_of t.description) high offset s) → LiesOn low high offset s
    by true e found rest =
        let is = same_Some t s found in
        let here = eqb-true offset t.offset (and_parts (nat_eq offset t.offset) (nat_lt 0 (size_of t.description)) e).0 in
        let end = rise_ends (t.offset + size_of t.description) ss high h.1 in
        let place : t.offset ≡ s.offset = ap (λ p. p.offset) is in
        let size : size_of t.description ≡ size_of s.description = ap (λ p. size_of p.description) is in
        record { is = here ∙ place; after = omega (arith, h.0, place); before = omega (arith, end, place, size) }
    by false e found rest =
        let inner = rest found in
        record { is = inner.is; after = omega (arith, h.0, inner.after); before = inner.before }

pub on_within : (d : Description) (offset : ℕ) (s : PlacedPart) → scalar_on offset (scalars_at d) ≡ Some s → s.offset + size_of s.description ≤ size_of d
on_within d offset s found = (on_lies offset 0 (scalars_at d) (size_of d) s (rises d) found).before

-- ---- one that has a byte is found on its first

rise_at : (low : ℕ) (front back : List PlacedPart) (s : PlacedPart) (high : ℕ) → Rise low (front ++ s ∷ back) high → low ≤ s.offset
rise_at low [] back s high h = h.0
rise_at low (t ∷ front) back s high h = omega (arith, h.0, rise_at (t.offset + size_of t.description) front back s high h.1)

pub on_itself : (low : ℕ) (front back : List PlacedPart) (s : PlacedPart) (high : ℕ) → Rise low (front ++ s ∷ back) high → 0 < size_of s.description
    → scalar_on s.offset (front ++ s ∷ back) ≡ Some s
on_itself low [] back s high h some =
    ap (λ b. if b && nat_lt 0 (size_of s.description) then Some s else scalar_on s.offset back) (eq-eqb s.offset s.offset refl)
    ∙ ap (λ b. if b then Some s else scalar_on s.offset back) (lt-ltb 0 (size_of s.description) some)
on_itself low (t ∷ front) back s high h some =
    by (nat_lt 0 (size_of t.description)) refl (on_itself (t.offset + size_of t.description) front back s high h.1 some)
  where
    rest : List PlacedPart
    rest = front ++ s ∷ back

    by : (b : Bool) → nat_lt 0 (size_of t.description) ≡ b → scalar_on s.offset rest ≡ Some s → (if nat_eq s.offset t.offset && b then Some t else scalar_on s.offset rest) ≡ Some s
    by true e found =
        let wide = ltb-true 0 (size_of t.description) e in
        let after = rise_at (t.offset + size_of t.description) front back s high h.1 in
        let apart : s.offset ≡ t.offset → ⊥ = λ same. omega (arith, same, wide, after) in
        ap (λ b. if b && true then Some t else scalar_on s.offset rest) (ne_eqb s.offset t.offset apart) ∙ found
    by false e found = ap (λ b. if b then Some t else scalar_on s.offset rest) (and_false (nat_eq s.offset t.offset)) ∙ found
