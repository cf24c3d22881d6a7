-- The laws of scalars.
use Rattle.std.proofs.Common.{◌≡◌, ℕ, zero, suc, ◌+◌, ◌-◌, ◌*◌, ◌/◌, ◌%◌, ◌<◌, Bool, true, false, ◌||◌, true≢false, nat_le, nat_lt, int_le, ℤ, pos, ◌+ℤ◌, ◌-ℤ◌, ◌≤ℤ◌, unsigned_abs, List, [], ◌∷◌, Some, None, option_map, if◌then◌else◌, refl, ap, sym, ◌∙◌, subst, arith, inl, inr}
use Rattle.std.proofs.lemmas.Bool.{ltb-true, ltb-false, and_parts}
use Rattle.std.proofs.lemmas.Int.{ints}
use Rattle.std.proofs.lemmas.Nat.{div-add-mod', div_below}
use Rattle.std.proofs.lemmas.Option.{same_Some, none-some}
use Rattle.std.proofs.Math.Nat.{mod-lt}
use Rattle.pli_map.specs.declared.description.Bounds.{Bounds}
use Rattle.pli_map.specs.Description.{Description, FixedBinary, Character, Varying, Bit, Pointer, Offset, Area, Array, Structure, Members, NoMembers, MemberThen}
use Rattle.pli_map.specs.laws.ScalarLaws.{PartsAreFound, PartsAreDetermined, FoundIsPlaced, ScalarsLieWithin, PartsOfParts, FilledPartsTakeBytes}
use Rattle.pli_map.specs.Parts.{PathStep, Member, Element, PlacedPart, distance_of, index_of, member_after, part_at, place_of}
use Rattle.pli_map.specs.ScalarPaths.{scalars_before_member, scalars_before_step, scalars_before, is_filled, are_filled, has_area, have_area}
use Rattle.pli_map.specs.Scalars.{scalars_in, stands_here, first_scalar, scalar_after}
use Rattle.pli_map.specs.Sizes.{extent_of, count_of, size_of, stride_of}
use Rattle.pli_map.proofs.Members.{later}
use Rattle.pli_map.proofs.Places.{element_part, step_is, index_below, fits_stride}
use Rattle.pli_map.proofs.PlaceLaws.{leads, lie_within}
use Rattle.pli_map.proofs.ScalarParts.{element_found, structure_finds, first_finds, others_find, joined}
use Rattle.pli_map.proofs.ScalarPlaces.{here, itself, in_array, in_structure, in_members, start_of, within}

-- ---- a whole is found in itself

taken : {A : Type 0} (b : Bool) (x y : A) → b ≡ true → (if b then x else y) ≡ x
taken b x y e = rw e

pub whole_found : (d : Description) → first_scalar d 0 d ≡ Some 0
whole_found (FixedBinary n) = taken (stands_here (FixedBinary n) 0 (FixedBinary n)) (Some 0) None (itself (FixedBinary n))
whole_found (Character n) = taken (stands_here (Character n) 0 (Character n)) (Some 0) None (itself (Character n))
whole_found (Varying n) = taken (stands_here (Varying n) 0 (Varying n)) (Some 0) None (itself (Varying n))
whole_found (Bit n) = taken (stands_here (Bit n) 0 (Bit n)) (Some 0) None (itself (Bit n))
whole_found Pointer = taken (stands_here Pointer 0 Pointer) (Some 0) None (itself Pointer)
whole_found Offset = taken (stands_here Offset 0 Offset) (Some 0) None (itself Offset)
whole_found (Area n) = taken (stands_here (Area n) 0 (Area n)) (Some 0) None (itself (Area n))
whole_found (Array bs e) =
    taken (stands_here (Array bs e) 0 (Array bs e)) (Some 0)
    (if nat_lt (0 / stride_of e) (count_of bs) then option_map (λ k. 0 / stride_of e * scalars_in e + k) (first_scalar e (0 % stride_of e) (Array bs e)) else None)
    (itself (Array bs e))
whole_found (Structure ds) = taken (stands_here (Structure ds) 0 (Structure ds)) (Some 0) (scalar_after 0 ds 0 (Structure ds)) (itself (Structure ds))

-- ---- the part of one step

abbrev pub StepFound : Description → PathStep → PlacedPart → Type 0
StepFound d s p = (k : ℕ) × (scalars_before_step d s ≡ Some k) × (first_scalar d p.offset p.description ≡ Some k)

member_found : (at : ℕ) (ds : Members) (i : ℕ) (p : PlacedPart) → 0 < size_of p.description → member_after at ds i ≡ Some p
    → (k : ℕ) × (scalars_before_member ds i ≡ Some k) × (scalar_after at ds p.offset p.description ≡ Some k)
member_found at NoMembers i p sized e = absurd (none-some p e)
member_found at (MemberThen d ds) zero p sized e =
    let is = same_Some _ p e in
    let size : size_of d ≡ size_of p.description = ap (λ q. size_of q.description) is in
    let there : start_of at d + 0 ≡ start_of at d = omega arith in
    let Claim : PlacedPart → Type 0 = λ q. (k : ℕ) × (scalars_before_member (MemberThen d ds) 0 ≡ Some k) × (scalar_after at (MemberThen d ds) q.offset q.description ≡ Some k) in
    subst Claim is (0, refl, sym (ap (λ n. scalar_after at (MemberThen d ds) n d) there) ∙ first_finds at d ds 0 d 0 (omega (arith, size, sized)) (whole_found d))
member_found at (MemberThen d ds) (suc i) p sized e =
    let m = member_found (start_of at d + size_of d) ds i p sized e in
    (scalars_in d + m.0, ap (λ o. option_map (λ k. scalars_in d + k) o) m.1, others_find at d ds p.offset p.description m.0 m.2)

step_found : (d : Description) (s : PathStep) (p : PlacedPart) → 0 < size_of p.description → part_at d s ≡ Some p → StepFound d s p
step_found d s p sized e = elim (step_is d s p e) [
  | inl m ↦ let f = member_found 0 m.members m.number p sized m.part_is in
      let found : StepFound (Structure m.members) (Member m.number) p = (f.0, f.1, structure_finds m.members p.offset p.description f.0 f.2) in
      subst (λ w. StepFound w s p) (sym m.whole_is) (subst (λ t. StepFound (Structure m.members) t p) (sym m.step_is) found)
  | inr m ↦ let size : size_of m.element ≡ size_of p.description = ap (λ q. size_of q.description) m.part_is in
      let at : m.index * stride_of m.element + 0 ≡ m.index * stride_of m.element = omega arith in
      let inner = element_found m.bounds m.element 0 m.index m.element 0 (m.index * scalars_in m.element)
      (index_below m.bounds m.subscripts m.index m.index_is) (omega (arith, size, sized)) (whole_found m.element) (omega arith) in
      let found : StepFound (Array m.bounds m.element) (Element m.subscripts) (element_part m.index m.element) = (
        m.index * scalars_in m.element,
        ap (λ o. option_map (λ k. k * scalars_in m.element) o) m.index_is,
        sym (ap (λ n. first_scalar (Array m.bounds m.element) n m.element) at) ∙ inner,
      ) in
      subst (λ w. StepFound w s p) (sym m.whole_is) (subst (λ t. StepFound (Array m.bounds m.element) t p) (sym m.step_is) (subst (λ q. StepFound (Array m.bounds m.element) (Element m.subscripts) q) m.part_is found))
]

-- ---- paths

path_found : (d : Description) (path : List PathStep) (p : PlacedPart) → 0 < size_of p.description → place_of d path ≡ Some p
    → (k : ℕ) × (scalars_before d path ≡ Some k) × (first_scalar d p.offset p.description ≡ Some k)
path_found d [] p sized e =
    let Claim : PlacedPart → Type 0 = λ q. (k : ℕ) × (scalars_before d [] ≡ Some k) × (first_scalar d q.offset q.description ≡ Some k) in
    subst Claim (same_Some _ p e) (0, refl, whole_found d)
path_found d (s ∷ path) p sized e =
    let l = leads d s path p e in
    let size : size_of l.rest.description ≡ size_of p.description = ap (λ q. size_of q.description) l.whole in
    let fits = lie_within l.first.description path l.rest l.rest_is in
    let step = step_found d s l.first (omega (arith, size, fits, sized)) l.first_is in
    let inner = path_found l.first.description path l.rest (omega (arith, size, sized)) l.rest_is in
    let Claim : PlacedPart → Type 0 = λ q. (k : ℕ) × (scalars_before d (s ∷ path) ≡ Some k) × (first_scalar d q.offset q.description ≡ Some k) in
    subst Claim l.whole (
      step.0 + inner.0,
      rw (l.first_is, step.1, inner.1),
      joined d l.first.offset l.first.description step.0 l.rest.offset l.rest.description inner.0 (omega (arith, size, sized)) step.2 inner.2,
    )

pub parts_are_found : PartsAreFound
parts_are_found whole path part sized e =
    let f = path_found whole path part sized e in
    f.2 ∙ sym f.1

pub parts_are_determined : PartsAreDetermined
parts_are_determined whole path other part sized e f =
    sym (parts_are_found whole path part sized e) ∙ parts_are_found whole other part sized f

pub scalars_lie_within : ScalarsLieWithin
scalars_lie_within whole offset description k e =
    let w = within whole offset description k e in
    (w.scalars, w.bytes)

pub parts_of_parts : PartsOfParts
parts_of_parts whole offset part k inner description j sized e f = joined whole offset part k inner description j sized e f

-- ---- only parts are found

-- each number of an element has its subscripts
reached : (low high : ℤ) (d : ℕ) → int_le low high ≡ true → d < unsigned_abs (high -ℤ low) + 1 → (int_le low (low +ℤ pos d) ≡ true) × (int_le (low +ℤ pos d) high ≡ true) × (unsigned_abs ((low +ℤ pos d) -ℤ low) ≡ d)
reached low high d order below =
    let first : low ≤ℤ (low +ℤ pos d) = omega (arith, ints) in
    let last : (low +ℤ pos d) ≤ℤ high = omega (arith, ints, order, below) in
    (grind (arith, ints, first), grind (arith, ints, last), omega (arith, ints))

none_below_0 : (d : ℕ) → d < 0 → ⊥
none_below_0 d h = omega arith

subscript_within : (b : Bounds) (d : ℕ) (o : Bool) → int_le b.low b.high ≡ o → d < (if o then unsigned_abs (b.high -ℤ b.low) + 1 else 0)
    → distance_of b (b.low +ℤ pos d) ≡ Some d
subscript_within b d true order below =
    let r = reached b.low b.high d order below in
    rw (r.0, r.1) (ap Some r.2)
subscript_within b d false order below = absurd (none_below_0 d below)

subscript_at : (b : Bounds) (d : ℕ) → d < extent_of b → distance_of b (b.low +ℤ pos d) ≡ Some d
subscript_at b d below = subscript_within b d (int_le b.low b.high) refl below

none_in_0 : (k n : ℕ) → k < n * 0 → ⊥
none_in_0 k n h = omega arith

quotient_below : (k n m : ℕ) → k < n * m → 0 < m
quotient_below k n zero h = absurd (none_in_0 k n h)
quotient_below k n (suc m) h = omega arith

pub subscripts_at : (bs : List Bounds) (k : ℕ) → k < count_of bs → (xs : List ℤ) × (index_of bs xs ≡ Some k)
subscripts_at [] k below = ([], ap Some (omega arith))
subscripts_at (b ∷ bs) k below =
    let count = count_of bs in
    let some = quotient_below k (extent_of b) count below in
    let others = subscripts_at bs (k % count) (mod-lt k some) in
    let first = subscript_at b (k / count) (div_below k count (extent_of b) some below) in
    let parts = div-add-mod' k count in
    ((b.low +ℤ pos (k / count)) ∷ others.0, rw (first, others.1) (ap Some parts))

abbrev pub at_place : ℕ → Description → PlacedPart
at_place n d = record { offset = n; description = d }

abbrev pub Placed : Description → ℕ → Description → ℕ → Type 0
Placed whole o part k = (path : List PathStep) × (place_of whole path ≡ Some (at_place o part)) × (scalars_before whole path ≡ Some k)

placed_itself : (whole : Description) (o : ℕ) (part : Description) (k : ℕ) → stands_here whole o part ≡ true → 0 ≡ k → Placed whole o part k
placed_itself whole o part k stands first =
    let h = here whole o part stands in
    let at : Some (at_place 0 whole) ≡ Some (at_place o part) = ap (λ n. Some (at_place n whole)) (sym h.offset_is) ∙ ap (λ w. Some (at_place o w)) h.part_is in
    ([], at, ap Some first)

scalar_stands : (b : Bool) (k : ℕ) → (if b then Some 0 else None) ≡ Some k → (b ≡ true) × (0 ≡ k)
scalar_stands true k e = (refl, same_Some _ _ e)
scalar_stands false k e = absurd (none-some k e)

placed_scalar : (whole : Description) (o : ℕ) (part : Description) (k : ℕ) → (if stands_here whole o part then Some 0 else None) ≡ Some k → Placed whole o part k
placed_scalar whole o part k e =
    let c = scalar_stands (stands_here whole o part) k e in
    placed_itself whole o part k c.0 c.1

-- the way to a part among members: to one of them, and on
pub record Way (at : ℕ) (ds : Members) (o : ℕ) (part : Description) (k : ℕ) : Type 0 where
  pub number : ℕ
  pub first : PlacedPart
  pub before : ℕ
  pub inner : ℕ
  pub inner_before : ℕ
  pub first_is : member_after at ds number ≡ Some first
  pub before_is : scalars_before_member ds number ≡ Some before
  pub placed : Placed first.description inner part inner_before
  pub offset_is : first.offset + inner ≡ o
  pub number_is : before + inner_before ≡ k

mutual
  pub is_placed : (whole : Description) (o : ℕ) (part : Description) (k : ℕ) → first_scalar whole o part ≡ Some k → Placed whole o part k
  is_placed (FixedBinary n) o part k e = placed_scalar (FixedBinary n) o part k e
  is_placed (Character n) o part k e = placed_scalar (Character n) o part k e
  is_placed (Varying n) o part k e = placed_scalar (Varying n) o part k e
  is_placed (Bit n) o part k e = placed_scalar (Bit n) o part k e
  is_placed Pointer o part k e = placed_scalar Pointer o part k e
  is_placed Offset o part k e = placed_scalar Offset o part k e
  is_placed (Area n) o part k e = placed_scalar (Area n) o part k e
  is_placed (Array bs element) o part k e = elim (in_array bs element o part k e) [
    | inl c ↦ placed_itself (Array bs element) o part k c.0 c.1
    | inr c ↦ let stride = stride_of element in
        let inner = is_placed element (o % stride) part c.number c.rest_is in
        let xs = subscripts_at bs (o / stride) (ltb-true _ _ c.passes) in
        let at : o / stride * stride + o % stride ≡ o = div-add-mod' o stride in
        (Element xs.0 ∷ inner.0, rw (xs.1, inner.1) (ap (λ n. Some (at_place n part)) at), rw (xs.1, inner.2) (ap Some c.whole))
  ]
  is_placed (Structure members) o part k e = elim (in_structure members o part k e) [
    | inl c ↦ placed_itself (Structure members) o part k c.0 c.1
    | inr rest ↦ let w = way 0 members o part k rest in
        (Member w.number ∷ w.placed.0, rw (w.first_is, w.placed.1) (ap (λ n. Some (at_place n part)) w.offset_is), rw (w.first_is, w.before_is, w.placed.2) (ap Some w.number_is))
  ]

  way : (at : ℕ) (ds : Members) (o : ℕ) (part : Description) (k : ℕ) → scalar_after at ds o part ≡ Some k → Way at ds o part k
  way at NoMembers o part k e = absurd (none-some k e)
  way at (MemberThen d ds) o part k e = elim (in_members at d ds o part k e) [
    | inl c ↦ let start = start_of at d in
        let low = ltb-false o start c.above in
        record {
          number = 0;
          first = at_place start d;
          before = 0;
          inner = o - start;
          inner_before = k;
          first_is = refl;
          before_is = refl;
          placed = is_placed d (o - start) part k c.rest_is;
          offset_is = omega (arith, low);
          number_is = omega arith;
        }
    | inr c ↦ let w = way (start_of at d + size_of d) ds o part c.number c.rest_is in
        record {
          number = suc w.number;
          first = w.first;
          before = scalars_in d + w.before;
          inner = w.inner;
          inner_before = w.inner_before;
          first_is = w.first_is;
          before_is = ap (λ b. option_map (λ n. scalars_in d + n) b) w.before_is;
          placed = w.placed;
          offset_is = w.offset_is;
          number_is = omega (arith, w.number_is, c.whole);
        }
  ]

pub found_is_placed : FoundIsPlaced
found_is_placed whole offset description k e = is_placed whole offset description k e

-- ---- filled descriptions take bytes

abbrev pub TakesBytes : Description → Type 0
TakesBytes d = (0 < size_of d) × (has_area d ≡ false → 0 < scalars_in d)

number_takes : (b c : Bool) → 0 < (if b then 2 else (if c then 4 else 8))
number_takes true c = omega arith
number_takes false true = omega arith
number_takes false false = omega arith

positive_product : (n m : ℕ) → 0 < n → 0 < m → 0 < n * m
positive_product (suc n) (suc m) p q = omega arith
positive_product zero m p q = absurd (none_below_0 0 p)
positive_product (suc n) zero p q = absurd (none_below_0 0 q)

or_parts : (a b : Bool) → a || b ≡ false → a ≡ false
or_parts false b e = refl
or_parts true b e = e

mutual
  pub takes_bytes : (d : Description) → is_filled d ≡ true → TakesBytes d
  takes_bytes (FixedBinary p) e = (number_takes (nat_le p 15) (nat_le p 31), λ _. omega arith)
  takes_bytes (Character n) e = (ltb-true 0 n e, λ _. omega arith)
  takes_bytes (Varying n) e = (omega arith, λ _. omega arith)
  takes_bytes (Bit n) e = (omega (arith, ltb-true 0 n e), λ _. omega arith)
  takes_bytes Pointer e = (omega arith, λ _. omega arith)
  takes_bytes Offset e = (omega arith, λ _. omega arith)
  takes_bytes (Area n) e = (ltb-true 0 n e, λ none. absurd (true≢false none))
  takes_bytes (Array bs element) e =
      let both = and_parts (nat_lt 0 (count_of bs)) (is_filled element) e in
      let inner = takes_bytes element both.1 in
      let some = ltb-true 0 (count_of bs) both.0 in
      (positive_product (count_of bs) (stride_of element) some (omega (arith, inner.0, fits_stride element)), λ none. positive_product (count_of bs) (scalars_in element) some (inner.1 none))
  takes_bytes (Structure NoMembers) e = absurd (true≢false (sym e))
  takes_bytes (Structure (MemberThen d ds)) e =
      let both = and_parts (is_filled d) (are_filled ds) e in
      let inner = takes_bytes d both.0 in
      let end = later (start_of 0 d + size_of d) ds in
      (omega (arith, inner.0, end), λ none. let first = inner.1 (or_parts (has_area d) (have_area ds) none) in omega (arith, first))

same_filled : (whole : Description) (o : ℕ) (part : Description) → stands_here whole o part ≡ true → is_filled whole ≡ true → is_filled part ≡ true
same_filled whole o part stands e = sym (ap is_filled (here whole o part stands).part_is) ∙ e

filled_members : (ds : Members) → is_filled (Structure ds) ≡ true → are_filled ds ≡ true
filled_members NoMembers e = refl
filled_members (MemberThen d ds) e = e

filled_scalar : (whole : Description) (o : ℕ) (part : Description) (k : ℕ) → is_filled whole ≡ true → (if stands_here whole o part then Some 0 else None) ≡ Some k → is_filled part ≡ true
filled_scalar whole o part k e f = same_filled whole o part (scalar_stands (stands_here whole o part) k f).0 e

mutual
  pub part_filled : (whole : Description) (o : ℕ) (part : Description) (k : ℕ) → is_filled whole ≡ true → first_scalar whole o part ≡ Some k → is_filled part ≡ true
  part_filled (FixedBinary n) o part k e f = filled_scalar (FixedBinary n) o part k e f
  part_filled (Character n) o part k e f = filled_scalar (Character n) o part k e f
  part_filled (Varying n) o part k e f = filled_scalar (Varying n) o part k e f
  part_filled (Bit n) o part k e f = filled_scalar (Bit n) o part k e f
  part_filled Pointer o part k e f = filled_scalar Pointer o part k e f
  part_filled Offset o part k e f = filled_scalar Offset o part k e f
  part_filled (Area n) o part k e f = filled_scalar (Area n) o part k e f
  part_filled (Array bs element) o part k e f = elim (in_array bs element o part k f) [
    | inl c ↦ same_filled (Array bs element) o part c.0 e
    | inr c ↦ part_filled element (o % stride_of element) part c.number (and_parts (nat_lt 0 (count_of bs)) (is_filled element) e).1 c.rest_is
  ]
  part_filled (Structure members) o part k e f = elim (in_structure members o part k f) [
    | inl c ↦ same_filled (Structure members) o part c.0 e
    | inr rest ↦ among_filled 0 members o part k (filled_members members e) rest
  ]

  among_filled : (at : ℕ) (ds : Members) (o : ℕ) (part : Description) (k : ℕ) → are_filled ds ≡ true → scalar_after at ds o part ≡ Some k → is_filled part ≡ true
  among_filled at NoMembers o part k e f = absurd (none-some k f)
  among_filled at (MemberThen d ds) o part k e f = elim (in_members at d ds o part k f) [
    | inl c ↦ part_filled d (o - start_of at d) part k (and_parts (is_filled d) (are_filled ds) e).0 c.rest_is
    | inr c ↦ among_filled (start_of at d + size_of d) ds o part c.number (and_parts (is_filled d) (are_filled ds) e).1 c.rest_is
  ]

pub filled_parts_take_bytes : FilledPartsTakeBytes
filled_parts_take_bytes whole offset part k e f =
    let filled = part_filled whole offset part k e f in
    let takes = takes_bytes part filled in
    (filled, takes.0, takes.1)
