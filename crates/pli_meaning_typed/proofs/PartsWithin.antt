-- A part of a part is a part.
use Rattle.std.specs.Prelude.{◌≡◌, ℕ, suc, ◌+◌, ◌*◌, ◌/◌, ◌%◌, ◌-◌, ◌≤◌, ◌<◌, nat_eq, nat_lt, Bool, true, false, ◌&&◌}
use Rattle.std.specs.Prelude.{List, Some, None, option_map, ◌⊎◌, if◌then◌else◌, refl}
use Rattle.std.specs.Int.{next_multiple_of}
use Rattle.std.proofs.Common.{arith, sym, ap, ◌∙◌, subst, inl, inr, ltb-true, lt-ltb, mod-lt, mul-le-mul_right, suc-mul, div-add-mod', eq-zero-or-pos, mul-zero, true≢false}
use Rattle.std.proofs.Common.{mod-eq_of_lt}
use Rattle.std.proofs.Math.Nat.{mul-add-mod_self_right}
use Rattle.std.proofs.lemmas.Nat.{div-mul-add}
use Rattle.std.proofs.lemmas.Bool.{eqb-true, ltb-false}
use Rattle.pli_map.specs.declared.description.Bounds.{Bounds}
use Rattle.pli_map.specs.Description.{Description, FixedBinary, Character, Varying, Bit, Pointer, Offset, Area, Array}
use Rattle.pli_map.specs.Description.{Structure, Members, NoMembers, MemberThen}
use Rattle.pli_map.specs.Same.{same}
use Rattle.pli_map.specs.laws.SameLaws.{same_decides}
use Rattle.pli_map.specs.Scalars.{is_scalar, scalars_in, stands_here, first_scalar, scalar_after}
use Rattle.pli_map.specs.Sizes.{count_of, alignment_of, size_of, end_after, stride_of}
use Rattle.pli_map.proofs.ScalarLawsHold.{scalars_lie_within}
use Rattle.pli_meaning_typed.proofs.Parts.{mapped_from, none_some}

not_less : (n m : ℕ) → nat_lt n m ≡ false → m ≤ n
not_less n m e = ltb-false n m e

less_not : (n m : ℕ) → m ≤ n → nat_lt n m ≡ false
less_not n m le = by (nat_lt n m) refl
  where
    by : (b : Bool) → nat_lt n m ≡ b → b ≡ false
    by true e = absurd (omega (arith, ltb-true n m e, le))
    by false e = refl

-- at no distance, and the same
stands : (whole : Description) (offset : ℕ) (part : Description) → stands_here whole offset part ≡ true → (offset ≡ 0) × (whole ≡ part)
stands whole offset part h = by (nat_eq offset 0) (same whole part) refl refl h
  where
    by : (b c : Bool) → nat_eq offset 0 ≡ b → same whole part ≡ c → b && c ≡ true → (offset ≡ 0) × (whole ≡ part)
    by true true e f h = (eqb-true offset 0 e, (same_decides whole part).0 f)
    by true false e f h = absurd (true≢false (sym h))
    by false c e f h = absurd (true≢false (sym h))

stands_alone : (whole : Description) (offset : ℕ) (part : Description) (k : ℕ) → (if stands_here whole offset part then Some 0 else None) ≡ Some k
    → (offset ≡ 0) × (whole ≡ part)
stands_alone whole offset part k h = by (stands_here whole offset part) refl h
  where
    by : (b : Bool) → stands_here whole offset part ≡ b → (if b then Some 0 else None) ≡ Some k → (offset ≡ 0) × (whole ≡ part)
    by true e h = stands whole offset part e
    by false e h = absurd (none_some h)

-- a scalar has no part but itself
pub scalar_first : (whole : Description) (offset : ℕ) (part : Description) (k : ℕ) → is_scalar whole ≡ true → first_scalar whole offset part ≡ Some k
    → offset ≡ 0
scalar_first (Array bounds element) offset part k one h = absurd (true≢false (sym one))
scalar_first (Structure members) offset part k one h = absurd (true≢false (sym one))
scalar_first (FixedBinary p) offset part k one h = (stands_alone (FixedBinary p) offset part k h).0
scalar_first (Character n) offset part k one h = (stands_alone (Character n) offset part k h).0
scalar_first (Varying n) offset part k one h = (stands_alone (Varying n) offset part k h).0
scalar_first (Bit n) offset part k one h = (stands_alone (Bit n) offset part k h).0
scalar_first Pointer offset part k one h = (stands_alone Pointer offset part k h).0
scalar_first Offset offset part k one h = (stands_alone Offset offset part k h).0
scalar_first (Area n) offset part k one h = (stands_alone (Area n) offset part k h).0

-- what is found in an array stands there itself, or in an element
array_found : (bounds : List Bounds) (element : Description) (offset : ℕ) (part : Description) (k : ℕ)
    → first_scalar (Array bounds element) offset part ≡ Some k
    → ((offset ≡ 0) × (Array bounds element ≡ part))
    ⊎ ((offset / stride_of element < count_of bounds) × ((j : ℕ) × (first_scalar element (offset % stride_of element) part ≡ Some j)))
array_found bounds element offset part k h =
    by (stands_here (Array bounds element) offset part) (nat_lt (offset / stride_of element) (count_of bounds)) refl refl h
  where
    by : (b c : Bool) → stands_here (Array bounds element) offset part ≡ b → nat_lt (offset / stride_of element) (count_of bounds) ≡ c
        → (if b then Some 0 else if c then option_map (λ k. offset / stride_of element * scalars_in element + k)
        (first_scalar element (offset % stride_of element) part) else None) ≡ Some k
        → ((offset ≡ 0) × (Array bounds element ≡ part))
        ⊎ ((offset / stride_of element < count_of bounds) × ((j : ℕ) × (first_scalar element (offset % stride_of element) part ≡ Some j)))
    by true c e d h = inl (stands (Array bounds element) offset part e)
    by false true e d h =
        let m = mapped_from (first_scalar element (offset % stride_of element) part) (λ k. offset / stride_of element * scalars_in element + k) k h in
        inr (ltb-true (offset / stride_of element) (count_of bounds) d, (m.0, m.1))
    by false false e d h = absurd (none_some h)

structure_found : (members : Members) (offset : ℕ) (part : Description) (k : ℕ) → first_scalar (Structure members) offset part ≡ Some k
    → ((offset ≡ 0) × (Structure members ≡ part)) ⊎ (scalar_after 0 members offset part ≡ Some k)
structure_found members offset part k h = by (stands_here (Structure members) offset part) refl h
  where
    by : (b : Bool) → stands_here (Structure members) offset part ≡ b → (if b then Some 0 else scalar_after 0 members offset part) ≡ Some k
        → ((offset ≡ 0) × (Structure members ≡ part)) ⊎ (scalar_after 0 members offset part ≡ Some k)
    by true e h = inl (stands (Structure members) offset part e)
    by false e h = inr h

abbrev start_of : ℕ → Description → ℕ
start_of at d = next_multiple_of at (alignment_of d)

members_found : (d : Description) (ds : Members) (at offset : ℕ) (part : Description) (k : ℕ) → scalar_after at (MemberThen d ds) offset part ≡ Some k
    → ((offset < start_of at d + size_of d) × (start_of at d ≤ offset) × (first_scalar d (offset - start_of at d) part ≡ Some k))
    ⊎ ((start_of at d + size_of d ≤ offset) × ((j : ℕ) × (scalar_after (start_of at d + size_of d) ds offset part ≡ Some j)))
members_found d ds at offset part k h = by (nat_lt offset (start_of at d + size_of d)) (nat_lt offset (start_of at d)) refl refl h
  where
    by : (b c : Bool) → nat_lt offset (start_of at d + size_of d) ≡ b → nat_lt offset (start_of at d) ≡ c
        → (if b then (if c then None else first_scalar d (offset - start_of at d) part)
        else option_map (λ k. scalars_in d + k) (scalar_after (start_of at d + size_of d) ds offset part)) ≡ Some k
        → ((offset < start_of at d + size_of d) × (start_of at d ≤ offset) × (first_scalar d (offset - start_of at d) part ≡ Some k))
        ⊎ ((start_of at d + size_of d ≤ offset) × ((j : ℕ) × (scalar_after (start_of at d + size_of d) ds offset part ≡ Some j)))
    by true true e f h = absurd (none_some h)
    by true false e f h = inl (ltb-true offset (start_of at d + size_of d) e, not_less offset (start_of at d) f, h)
    by false c e f h =
        let m = mapped_from (scalar_after (start_of at d + size_of d) ds offset part) (λ k. scalars_in d + k) k h in
        inr (not_less offset (start_of at d + size_of d) e, (m.0, m.1))

-- the end of members
next_least : (n m : ℕ) → n ≤ next_multiple_of n m
next_least n m = omega arith

ends_after : (at : ℕ) (ds : Members) → at ≤ end_after at ds
ends_after at NoMembers = omega arith
ends_after at (MemberThen d ds) =
    omega (arith, ends_after (start_of at d + size_of d) ds, next_least at (alignment_of d))

-- an element's part, by its element's distance and its own within that
element_ends : (bounds : List Bounds) (element : Description) (offset rest : ℕ) → offset / stride_of element < count_of bounds
    → offset % stride_of element + rest ≤ stride_of element → offset + rest ≤ size_of (Array bounds element)
element_ends bounds element offset rest lt le =
    let s = stride_of element in
    let q = offset / s in
    let top : suc q * s ≤ count_of bounds * s = mul-le-mul_right s lt in
    omega (arith, div-add-mod' offset s, le, suc-mul q s, top)

-- what is found stands at the beginning, or before the end
abbrev IsInside : ℕ → ℕ → Type 0
IsInside offset size = (offset ≡ 0) ⊎ (offset < size)

array_inside : (bounds : List Bounds) (element : Description) (offset : ℕ) (part : Description)
    → ((r j : ℕ) → first_scalar element r part ≡ Some j → IsInside r (size_of element))
    → ((offset ≡ 0) × (Array bounds element ≡ part))
    ⊎ ((offset / stride_of element < count_of bounds) × ((j : ℕ) × (first_scalar element (offset % stride_of element) part ≡ Some j)))
    → IsInside offset (size_of (Array bounds element))
array_inside bounds element offset part rest (inl h) = inl h.0
array_inside bounds element offset part rest (inr h) =
    by (eq-zero-or-pos (stride_of element)) (rest (offset % stride_of element) h.1.0 h.1.1)
  where
    by : (stride_of element ≡ 0) ⊎ (0 < stride_of element) → IsInside (offset % stride_of element) (size_of element)
        → IsInside offset (size_of (Array bounds element))
    by (inl e) (inl z) =
        let q = offset / stride_of element in
        let none : q * stride_of element ≡ 0 = ap (λ s. q * s) e ∙ mul-zero q in
        inl (omega (arith, div-add-mod' offset (stride_of element), z, none))
    by (inl e) (inr lt) = absurd (omega (arith, e, lt, next_least (size_of element) (alignment_of element)))
    by (inr pos) i =
        let lt : offset % stride_of element < stride_of element = mod-lt offset pos in
        inr (omega (arith, element_ends bounds element offset 1 h.0 (omega (arith, lt))))

structure_inside : (members : Members) (offset : ℕ) (part : Description) (k : ℕ)
    → (scalar_after 0 members offset part ≡ Some k → offset < end_after 0 members)
    → ((offset ≡ 0) × (Structure members ≡ part)) ⊎ (scalar_after 0 members offset part ≡ Some k)
    → IsInside offset (size_of (Structure members))
structure_inside members offset part k rest (inl h) = inl h.0
structure_inside members offset part k rest (inr h) = inr (rest h)

member_inside : (d : Description) (ds : Members) (at offset : ℕ) (part : Description) (k : ℕ)
    → ((at j : ℕ) → scalar_after at ds offset part ≡ Some j → offset < end_after at ds)
    → ((offset < start_of at d + size_of d) × (start_of at d ≤ offset) × (first_scalar d (offset - start_of at d) part ≡ Some k))
    ⊎ ((start_of at d + size_of d ≤ offset) × ((j : ℕ) × (scalar_after (start_of at d + size_of d) ds offset part ≡ Some j)))
    → offset < end_after at (MemberThen d ds)
member_inside d ds at offset part k others (inl h) = omega (arith, h.0, ends_after (start_of at d + size_of d) ds)
member_inside d ds at offset part k others (inr h) = others (start_of at d + size_of d) h.1.0 h.1.1

members_inside : (ds : Members) (at offset : ℕ) (part : Description) (k : ℕ) → scalar_after at ds offset part ≡ Some k → offset < end_after at ds
members_inside NoMembers at offset part k h = absurd (none_some h)
members_inside (MemberThen d ds) at offset part k h =
    member_inside d ds at offset part k (λ next j g. members_inside ds next offset part j g) (members_found d ds at offset part k h)

inside : (whole : Description) (offset : ℕ) (part : Description) (k : ℕ) → first_scalar whole offset part ≡ Some k → IsInside offset (size_of whole)
inside (Array bounds element) offset part k h =
    array_inside bounds element offset part (λ r j g. inside element r part j g) (array_found bounds element offset part k h)
inside (Structure members) offset part k h =
    structure_inside members offset part k (λ g. members_inside members 0 offset part k g) (structure_found members offset part k h)
inside (FixedBinary p) offset part k h = inl (stands_alone (FixedBinary p) offset part k h).0
inside (Character n) offset part k h = inl (stands_alone (Character n) offset part k h).0
inside (Varying n) offset part k h = inl (stands_alone (Varying n) offset part k h).0
inside (Bit n) offset part k h = inl (stands_alone (Bit n) offset part k h).0
inside Pointer offset part k h = inl (stands_alone Pointer offset part k h).0
inside Offset offset part k h = inl (stands_alone Offset offset part k h).0
inside (Area n) offset part k h = inl (stands_alone (Area n) offset part k h).0

-- what a part has, and where
module _ (part : Description) (more : ℕ) (d : Description) (j : ℕ) (has : first_scalar part more d ≡ Some j) where
  within_part : IsInside more (size_of part)
  within_part = inside part more d j has

  itself_has : (whole : Description) (offset : ℕ) → (offset ≡ 0) × (whole ≡ part) → (i : ℕ) × (first_scalar whole (offset + more) d ≡ Some i)
  itself_has whole offset h =
      let e : more ≡ offset + more = omega (arith, h.0) in
      (j, subst (λ n. first_scalar whole n d ≡ Some j) e (subst (λ w. first_scalar w more d ≡ Some j) (sym h.1) has))

  -- found in an element, or in a member
  pub in_element : (bounds : List Bounds) (element : Description) (n i : ℕ) → n / stride_of element < count_of bounds
      → first_scalar element (n % stride_of element) d ≡ Some i → (k : ℕ) × (first_scalar (Array bounds element) n d ≡ Some k)
  in_element bounds element n i lt h = by (stands_here (Array bounds element) n d) (lt-ltb (n / stride_of element) (count_of bounds) lt)
    where
      by : (b : Bool) → nat_lt (n / stride_of element) (count_of bounds) ≡ true
          → (k : ℕ) × ((if b then Some 0 else if nat_lt (n / stride_of element) (count_of bounds)
          then option_map (λ k. n / stride_of element * scalars_in element + k) (first_scalar element (n % stride_of element) d) else None) ≡ Some k)
      by true e = (0, refl)
      by false e = (
        n / stride_of element * scalars_in element + i,
        ap (λ c. if c then option_map (λ k. n / stride_of element * scalars_in element + k) (first_scalar element (n % stride_of element) d) else None) e
            ∙ ap (λ o. option_map (λ k. n / stride_of element * scalars_in element + k) o) h,
      )

  -- the same element, so much further
  same_element : (s offset : ℕ) → (more ≡ 0) ⊎ (offset % s + more < s)
      → ((offset + more) / s ≡ offset / s) × ((offset + more) % s ≡ offset % s + more)
  same_element s offset (inl e) =
      let z : offset + more ≡ offset = omega (arith, e) in
      let y : offset % s ≡ offset % s + more = omega (arith, e) in
      (ap (λ n. n / s) z, ap (λ n. n % s) z ∙ y)
  same_element s offset (inr lt) =
      let q = offset / s in
      let e : offset + more ≡ q * s + (offset % s + more) = omega (arith, div-add-mod' offset s) in (
        ap (λ n. n / s) e ∙ div-mul-add q s (offset % s + more) lt,
        ap (λ n. n % s) e ∙ mul-add-mod_self_right q s (offset % s + more) ∙ mod-eq_of_lt lt,
      )

  array_has : (bounds : List Bounds) (element : Description) (offset : ℕ)
      → ((r k : ℕ) → first_scalar element r part ≡ Some k → (i : ℕ) × (first_scalar element (r + more) d ≡ Some i))
      → ((offset ≡ 0) × (Array bounds element ≡ part))
      ⊎ ((offset / stride_of element < count_of bounds) × ((j : ℕ) × (first_scalar element (offset % stride_of element) part ≡ Some j)))
      → (i : ℕ) × (first_scalar (Array bounds element) (offset + more) d ≡ Some i)
  array_has bounds element offset rest (inl h) = itself_has (Array bounds element) offset h
  array_has bounds element offset rest (inr h) =
      let s = stride_of element in
      let r = rest (offset % s) h.1.0 h.1.1 in
      let e = same_element s offset (room within_part) in
      in_element bounds element (offset + more) r.0 (subst (λ q. q < count_of bounds) (sym e.0) h.0)
      (subst (λ n. first_scalar element n d ≡ Some r.0) (sym e.1) r.1)
    where
      room : IsInside more (size_of part) → (more ≡ 0) ⊎ (offset % stride_of element + more < stride_of element)
      room (inl z) = inl z
      room (inr lt) =
          inr (omega (arith, lt, (scalars_lie_within element (offset % stride_of element) part h.1.0 h.1.1).1, next_least (size_of element) (alignment_of element)))

  structure_has : (members : Members) (offset k : ℕ)
      → (scalar_after 0 members offset part ≡ Some k → (i : ℕ) × (scalar_after 0 members (offset + more) d ≡ Some i))
      → ((offset ≡ 0) × (Structure members ≡ part)) ⊎ (scalar_after 0 members offset part ≡ Some k)
      → (i : ℕ) × (first_scalar (Structure members) (offset + more) d ≡ Some i)
  structure_has members offset k rest (inl h) = itself_has (Structure members) offset h
  structure_has members offset k rest (inr h) = by (stands_here (Structure members) (offset + more) d) (rest h)
    where
      by : (b : Bool) → (i : ℕ) × (scalar_after 0 members (offset + more) d ≡ Some i)
          → (i : ℕ) × ((if b then Some 0 else scalar_after 0 members (offset + more) d) ≡ Some i)
      by true r = (0, refl)
      by false r = r

  member_has : (first : Description) (ds : Members) (at offset k : ℕ)
      → ((r k : ℕ) → first_scalar first r part ≡ Some k → (i : ℕ) × (first_scalar first (r + more) d ≡ Some i))
      → ((at k : ℕ) → scalar_after at ds offset part ≡ Some k → (i : ℕ) × (scalar_after at ds (offset + more) d ≡ Some i))
      → ((offset < start_of at first + size_of first) × (start_of at first ≤ offset) × (first_scalar first (offset - start_of at first) part ≡ Some k))
      ⊎ ((start_of at first + size_of first ≤ offset) × ((j : ℕ) × (scalar_after (start_of at first + size_of first) ds offset part ≡ Some j)))
      → (i : ℕ) × (scalar_after at (MemberThen first ds) (offset + more) d ≡ Some i)
  member_has first ds at offset k here after (inl h) =
      let r = here (offset - start_of at first) k h.2 in
      let e : offset - start_of at first + more ≡ offset + more - start_of at first = omega (arith, h.1) in (
        r.0,
        ap (λ b. if b then (if nat_lt (offset + more) (start_of at first) then None else first_scalar first (offset + more - start_of at first) d)
            else option_map (λ k. scalars_in first + k) (scalar_after (start_of at first + size_of first) ds (offset + more) d))
            (lt-ltb (offset + more) (start_of at first + size_of first) (before within_part))
            ∙ ap (λ b. if b then None else first_scalar first (offset + more - start_of at first) d)
            (less_not (offset + more) (start_of at first) (omega (arith, h.1)))
            ∙ subst (λ n. first_scalar first n d ≡ Some r.0) e r.1,
      )
    where
      before : IsInside more (size_of part) → offset + more < start_of at first + size_of first
      before (inl z) = omega (arith, z, h.0)
      before (inr lt) = omega (arith, lt, h.1, (scalars_lie_within first (offset - start_of at first) part k h.2).1)
  member_has first ds at offset k here after (inr h) =
      let r = after (start_of at first + size_of first) h.1.0 h.1.1 in (
        scalars_in first + r.0,
        ap (λ b. if b then (if nat_lt (offset + more) (start_of at first) then None else first_scalar first (offset + more - start_of at first) d)
            else option_map (λ k. scalars_in first + k) (scalar_after (start_of at first + size_of first) ds (offset + more) d))
            (less_not (offset + more) (start_of at first + size_of first) (omega (arith, h.0)))
            ∙ ap (λ o. option_map (λ k. scalars_in first + k) o) r.1,
      )

  mutual
    has_within : (whole : Description) (offset k : ℕ) → first_scalar whole offset part ≡ Some k
        → (i : ℕ) × (first_scalar whole (offset + more) d ≡ Some i)
    has_within (Array bounds element) offset k h =
        array_has bounds element offset (λ r k g. has_within element r k g) (array_found bounds element offset part k h)
    has_within (Structure members) offset k h =
        structure_has members offset k (λ g. members_have members 0 offset k g) (structure_found members offset part k h)
    has_within (FixedBinary p) offset k h = itself_has (FixedBinary p) offset (stands_alone (FixedBinary p) offset part k h)
    has_within (Character n) offset k h = itself_has (Character n) offset (stands_alone (Character n) offset part k h)
    has_within (Varying n) offset k h = itself_has (Varying n) offset (stands_alone (Varying n) offset part k h)
    has_within (Bit n) offset k h = itself_has (Bit n) offset (stands_alone (Bit n) offset part k h)
    has_within Pointer offset k h = itself_has Pointer offset (stands_alone Pointer offset part k h)
    has_within Offset offset k h = itself_has Offset offset (stands_alone Offset offset part k h)
    has_within (Area n) offset k h = itself_has (Area n) offset (stands_alone (Area n) offset part k h)

    members_have : (ds : Members) (at offset k : ℕ) → scalar_after at ds offset part ≡ Some k
        → (i : ℕ) × (scalar_after at ds (offset + more) d ≡ Some i)
    members_have NoMembers at offset k h = absurd (none_some h)
    members_have (MemberThen first ds) at offset k h =
        member_has first ds at offset k (λ r k g. has_within first r k g) (λ next k g. members_have ds next offset k g)
        (members_found first ds at offset part k h)

pub parts_within : (whole : Description) (offset : ℕ) (part : Description) (k : ℕ) → first_scalar whole offset part ≡ Some k
    → (more : ℕ) (d : Description) (j : ℕ) → first_scalar part more d ≡ Some j
    → (i : ℕ) × (first_scalar whole (offset + more) d ≡ Some i)
parts_within whole offset part k h more d j g = has_within part more d j g whole offset k h
