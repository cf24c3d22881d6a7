-- Where the scalars of a description stand.
use Rattle.std.proofs.Common.{◌≡◌, ℕ, suc, ◌+◌, ◌-◌, ◌*◌, ◌/◌, ◌%◌, ◌<◌, ◌≤◌, Bool, true, false, nat_eq, nat_lt, List, Option, Some, None, option_map, if◌then◌else◌, refl, ap, arith, ◌⊎◌, inl, inr}
use Rattle.std.specs.Int.{next_multiple_of}
use Rattle.std.proofs.lemmas.Bool.{ltb-true, ltb-false, eqb-true, and_parts, false_from_ne_true}
use Rattle.std.proofs.lemmas.Nat.{div-add-mod'}
use Rattle.std.proofs.lemmas.Option.{same_Some, none-some}
use Rattle.pli_map.specs.declared.description.Bounds.{Bounds}
use Rattle.pli_map.specs.Description.{Description, FixedBinary, Character, Varying, Bit, Pointer, Offset, Area, Array, Structure, Members, NoMembers, MemberThen}
use Rattle.pli_map.specs.laws.SameLaws.{same_decides}
use Rattle.pli_map.specs.Same.{same}
use Rattle.pli_map.specs.Scalars.{scalars_in, scalars_among, stands_here, first_scalar, scalar_after}
use Rattle.pli_map.specs.Sizes.{count_of, alignment_of, size_of, end_after, stride_of}
use Rattle.pli_map.proofs.Members.{later}
use Rattle.pli_map.proofs.Places.{element_inside, fits_stride}

-- ---- how many descriptions a description has in it, itself among them

abbrev mutual
  pub nodes : Description → ℕ
  nodes (Array bounds element) = suc (nodes element)
  nodes (Structure members) = suc (nodes_among members)
  nodes scalar = 1

  pub nodes_among : Members → ℕ
  nodes_among NoMembers = 0
  nodes_among (MemberThen d ds) = nodes d + nodes_among ds

-- ---- what stands at the beginning

pub record Here (whole : Description) (offset : ℕ) (part : Description) : Type 0 where
  pub offset_is : offset ≡ 0
  pub part_is : whole ≡ part

pub here : (whole : Description) (o : ℕ) (part : Description) → stands_here whole o part ≡ true → Here whole o part
here whole o part e =
    let h = and_parts (nat_eq o 0) (same whole part) e in
    record { offset_is = eqb-true o 0 h.0; part_is = (same_decides whole part).0 h.1 }

-- a description with fewer in it is another
pub not_here : (whole : Description) (o : ℕ) (part : Description) → nodes part < nodes whole → stands_here whole o part ≡ false
not_here whole o part less =
    false_from_ne_true _ (λ e. let h = here whole o part e in
    let same_nodes : nodes whole ≡ nodes part = ap nodes h.part_is in
    absurd (omega (arith, less, same_nodes)))

pub itself : (d : Description) → stands_here d 0 d ≡ true
itself d = (same_decides d d).1 refl

-- ---- the two answers of a test

taken : {A : Type 0} (b : Bool) (x y : A) → b ≡ true → (if b then x else y) ≡ x
taken b x y e = rw e

passed : {A : Type 0} (b : Bool) (x y : A) → b ≡ false → (if b then x else y) ≡ y
passed b x y e = rw e

pub record Inside (test : Bool) (rest : Option ℕ) (f : ℕ → ℕ) (k : ℕ) : Type 0 where
  pub passes : test ≡ true
  pub number : ℕ
  pub rest_is : rest ≡ Some number
  pub whole : f number ≡ k

mapped : (f : ℕ → ℕ) (rest : Option ℕ) (k : ℕ) → option_map f rest ≡ Some k → (j : ℕ) × (rest ≡ Some j) × (f j ≡ k)
mapped f None k e = absurd (none-some k e)
mapped f (Some j) k e = (j, refl, same_Some _ _ e)

inside_of : (test : Bool) (rest : Option ℕ) (f : ℕ → ℕ) (k : ℕ) → (if test then option_map f rest else None) ≡ Some k → Inside test rest f k
inside_of true rest f k e =
    let m = mapped f rest k e in
    record { passes = refl; number = m.0; rest_is = m.1; whole = m.2 }
inside_of false rest f k e = absurd (none-some k e)

-- a part of an array is the array itself or one of an element
array_cases : (stands test : Bool) (rest : Option ℕ) (f : ℕ → ℕ) (k : ℕ) → (if stands then Some 0 else if test then option_map f rest else None) ≡ Some k
    → ((stands ≡ true) × (0 ≡ k)) ⊎ Inside test rest f k
array_cases true test rest f k e = inl (refl, same_Some _ _ e)
array_cases false test rest f k e = inr (inside_of test rest f k e)

structure_cases : (stands : Bool) (rest : Option ℕ) (k : ℕ) → (if stands then Some 0 else rest) ≡ Some k → ((stands ≡ true) × (0 ≡ k)) ⊎ (rest ≡ Some k)
structure_cases true rest k e = inl (refl, same_Some _ _ e)
structure_cases false rest k e = inr e

scalar_cases : (stands : Bool) (k : ℕ) → (if stands then Some 0 else None) ≡ Some k → (stands ≡ true) × (0 ≡ k)
scalar_cases true k e = (refl, same_Some _ _ e)
scalar_cases false k e = absurd (none-some k e)

-- a part of members is one of the first or of those after it
pub record First (in_it before : Bool) (rest : Option ℕ) (k : ℕ) : Type 0 where
  pub below : in_it ≡ true
  pub above : before ≡ false
  pub rest_is : rest ≡ Some k

pub record After (in_it : Bool) (rest : Option ℕ) (f : ℕ → ℕ) (k : ℕ) : Type 0 where
  pub below : in_it ≡ false
  pub number : ℕ
  pub rest_is : rest ≡ Some number
  pub whole : f number ≡ k

member_cases : (in_it before : Bool) (rest others : Option ℕ) (f : ℕ → ℕ) (k : ℕ) → (if in_it then (if before then None else rest) else option_map f others) ≡ Some k
    → First in_it before rest k ⊎ After in_it others f k
member_cases true true rest others f k e = absurd (none-some k e)
member_cases true false rest others f k e = inl (record { below = refl; above = refl; rest_is = e })
member_cases false before rest others f k e =
    let m = mapped f others k e in
    inr (record { below = refl; number = m.0; rest_is = m.1; whole = m.2 })

-- ---- what is found lies within

pub record Within (whole : Description) (offset : ℕ) (part : Description) (k : ℕ) : Type 0 where
  pub fewer : nodes part ≤ nodes whole
  pub bytes : offset + size_of part ≤ size_of whole
  pub scalars : k + scalars_in part ≤ scalars_in whole

within_itself : (whole : Description) (o : ℕ) (part : Description) (k : ℕ) → stands_here whole o part ≡ true → 0 ≡ k → Within whole o part k
within_itself whole o part k stands first =
    let h = here whole o part stands in
    let n : nodes whole ≡ nodes part = ap nodes h.part_is in
    let s : size_of whole ≡ size_of part = ap size_of h.part_is in
    let t : scalars_in whole ≡ scalars_in part = ap scalars_in h.part_is in
    record { fewer = omega (arith, n); bytes = omega (arith, s, h.offset_is); scalars = omega (arith, t, first) }

within_scalar : (whole : Description) (o : ℕ) (part : Description) (k : ℕ) → (if stands_here whole o part then Some 0 else None) ≡ Some k → Within whole o part k
within_scalar whole o part k e =
    let c = scalar_cases (stands_here whole o part) k e in
    within_itself whole o part k c.0 c.1

-- the same among members
pub record Among (at : ℕ) (ds : Members) (offset : ℕ) (part : Description) (k : ℕ) : Type 0 where
  pub fewer : nodes part ≤ nodes_among ds
  pub low : at ≤ offset
  pub bytes : offset + size_of part ≤ end_after at ds
  pub scalars : k + scalars_in part ≤ scalars_among ds

abbrev pub InElement : List Bounds → Description → ℕ → Description → ℕ → Type 0
InElement bs element o part k =
    Inside (nat_lt (o / stride_of element) (count_of bs)) (first_scalar element (o % stride_of element) part) (λ j. o / stride_of element * scalars_in element + j) k

pub in_array : (bs : List Bounds) (element : Description) (o : ℕ) (part : Description) (k : ℕ) → first_scalar (Array bs element) o part ≡ Some k
    → ((stands_here (Array bs element) o part ≡ true) × (0 ≡ k)) ⊎ InElement bs element o part k
in_array bs element o part k e =
    array_cases (stands_here (Array bs element) o part) (nat_lt (o / stride_of element) (count_of bs)) (first_scalar element (o % stride_of element) part)
    (λ j. o / stride_of element * scalars_in element + j) k e

pub in_structure : (members : Members) (o : ℕ) (part : Description) (k : ℕ) → first_scalar (Structure members) o part ≡ Some k
    → ((stands_here (Structure members) o part ≡ true) × (0 ≡ k)) ⊎ (scalar_after 0 members o part ≡ Some k)
in_structure members o part k e = structure_cases (stands_here (Structure members) o part) (scalar_after 0 members o part) k e

abbrev pub start_of : ℕ → Description → ℕ
start_of at d = next_multiple_of at (alignment_of d)

abbrev pub InFirst : ℕ → Description → ℕ → Description → ℕ → Type 0
InFirst at d o part k = First (nat_lt o (start_of at d + size_of d)) (nat_lt o (start_of at d)) (first_scalar d (o - start_of at d) part) k

abbrev pub InOthers : ℕ → Description → Members → ℕ → Description → ℕ → Type 0
InOthers at d ds o part k = After (nat_lt o (start_of at d + size_of d)) (scalar_after (start_of at d + size_of d) ds o part) (λ j. scalars_in d + j) k

pub in_members : (at : ℕ) (d : Description) (ds : Members) (o : ℕ) (part : Description) (k : ℕ) → scalar_after at (MemberThen d ds) o part ≡ Some k
    → InFirst at d o part k ⊎ InOthers at d ds o part k
in_members at d ds o part k e =
    member_cases (nat_lt o (start_of at d + size_of d)) (nat_lt o (start_of at d)) (first_scalar d (o - start_of at d) part)
    (scalar_after (start_of at d + size_of d) ds o part) (λ j. scalars_in d + j) k e

mutual
  pub within : (whole : Description) (o : ℕ) (part : Description) (k : ℕ) → first_scalar whole o part ≡ Some k → Within whole o part k
  within (FixedBinary p) o part k e = within_scalar (FixedBinary p) o part k e
  within (Character n) o part k e = within_scalar (Character n) o part k e
  within (Varying n) o part k e = within_scalar (Varying n) o part k e
  within (Bit n) o part k e = within_scalar (Bit n) o part k e
  within Pointer o part k e = within_scalar Pointer o part k e
  within Offset o part k e = within_scalar Offset o part k e
  within (Area n) o part k e = within_scalar (Area n) o part k e
  within (Array bs element) o part k e = elim (in_array bs element o part k e) [
    | inl c ↦ within_itself (Array bs element) o part k c.0 c.1
    | inr c ↦ let stride = stride_of element in
        let w = within element (o % stride) part c.number c.rest_is in
        let below = ltb-true (o / stride) (count_of bs) c.passes in
        let parts = div-add-mod' o stride in
        let bytes = element_inside (o / stride) (count_of bs) stride (o % stride + size_of part) below (omega (arith, w.bytes, fits_stride element)) in
        let scalars = element_inside (o / stride) (count_of bs) (scalars_in element) (c.number + scalars_in part) below w.scalars in
        record { fewer = omega (arith, w.fewer); bytes = omega (arith, bytes, parts); scalars = omega (arith, scalars, c.whole) }
  ]
  within (Structure members) o part k e = elim (in_structure members o part k e) [
    | inl c ↦ within_itself (Structure members) o part k c.0 c.1
    | inr rest ↦ let w = among 0 members o part k rest in
        record { fewer = omega (arith, w.fewer); bytes = w.bytes; scalars = w.scalars }
  ]

  pub among : (at : ℕ) (ds : Members) (o : ℕ) (part : Description) (k : ℕ) → scalar_after at ds o part ≡ Some k → Among at ds o part k
  among at NoMembers o part k e = absurd (none-some k e)
  among at (MemberThen d ds) o part k e = elim (in_members at d ds o part k e) [
    | inl c ↦ let start = next_multiple_of at (alignment_of d) in
        let w = within d (o - start) part k c.rest_is in
        let low = ltb-false o start c.above in
        let end = later (start + size_of d) ds in
        record { fewer = omega (arith, w.fewer); low = omega (arith, low); bytes = omega (arith, low, w.bytes, end); scalars = omega (arith, w.scalars) }
    | inr c ↦ let start = next_multiple_of at (alignment_of d) in
        let w = among (start + size_of d) ds o part c.number c.rest_is in
        record { fewer = omega (arith, w.fewer); low = omega (arith, w.low); bytes = w.bytes; scalars = omega (arith, w.scalars, c.whole) }
  ]
