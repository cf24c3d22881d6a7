-- Parts of parts, and the scalars of a path.
use Rattle.std.proofs.Common.{◌≡◌, ℕ, ◌+◌, ◌-◌, ◌*◌, ◌/◌, ◌%◌, ◌<◌, Bool, true, false, nat_lt, List, Option, Some, None, option_map, if◌then◌else◌, refl, ap, sym, ◌∙◌, arith, inl, inr}
use Rattle.std.proofs.lemmas.Bool.{ltb-true, ltb-false, lt-ltb, le-ltb}
use Rattle.std.proofs.lemmas.Nat.{div-mul-add, div-add-mod'}
use Rattle.std.proofs.lemmas.Option.{same_Some, none-some}
use Rattle.pli_map.specs.declared.description.Bounds.{Bounds}
use Rattle.pli_map.specs.Description.{Description, FixedBinary, Character, Varying, Bit, Pointer, Offset, Area, Array, Structure, Members, NoMembers, MemberThen}
use Rattle.pli_map.specs.Scalars.{scalars_in, stands_here, first_scalar, scalar_after}
use Rattle.pli_map.specs.Sizes.{count_of, size_of, stride_of}
use Rattle.pli_map.proofs.Places.{fits_stride}
use Rattle.pli_map.proofs.ScalarPlaces.{here, not_here, in_array, in_structure, in_members, start_of, within, among}

-- ---- the answers of tests

array_found : (stands test : Bool) (rest : Option ℕ) (f : ℕ → ℕ) (j k : ℕ) → stands ≡ false → test ≡ true → rest ≡ Some j → f j ≡ k
    → (if stands then Some 0 else if test then option_map f rest else None) ≡ Some k
array_found stands test rest f j k stands_is test_is rest_is whole = rw (stands_is, test_is, rest_is) (ap Some whole)

structure_found : (stands : Bool) (rest answer : Option ℕ) → stands ≡ false → rest ≡ answer → (if stands then Some 0 else rest) ≡ answer
structure_found stands rest answer stands_is rest_is = rw stands_is rest_is

first_found : (in_it before : Bool) (rest others : Option ℕ) (f : ℕ → ℕ) (answer : Option ℕ) → in_it ≡ true → before ≡ false → rest ≡ answer
    → (if in_it then (if before then None else rest) else option_map f others) ≡ answer
first_found in_it before rest others f answer in_is before_is rest_is = rw (in_is, before_is) rest_is

others_found : (in_it before : Bool) (rest others : Option ℕ) (f : ℕ → ℕ) (j k : ℕ) → in_it ≡ false → others ≡ Some j → f j ≡ k
    → (if in_it then (if before then None else rest) else option_map f others) ≡ Some k
others_found in_it before rest others f j k in_is others_is whole = rw (in_is, others_is) (ap Some whole)

pub element_found : (bs : List Bounds) (element : Description) (o index : ℕ) (part : Description) (j k : ℕ) → index < count_of bs → 0 < size_of part
    → first_scalar element o part ≡ Some j → index * scalars_in element + j ≡ k → first_scalar (Array bs element) (index * stride_of element + o) part ≡ Some k
element_found bs element o index part j k below sized inner whole =
    let w = within element o part j inner in
    let stride = stride_of element in
    let near : o < stride = omega (arith, w.bytes, sized, fits_stride element) in
    let quotient : (index * stride + o) / stride ≡ index = div-mul-add index stride o near in
    let parts = div-add-mod' (index * stride + o) stride in
    let rest : (index * stride + o) % stride ≡ o = omega (arith, parts, ap (λ n. n * stride) quotient) in
    array_found (stands_here (Array bs element) (index * stride + o) part) (nat_lt ((index * stride + o) / stride) (count_of bs))
    (first_scalar element ((index * stride + o) % stride) part) (λ n. (index * stride + o) / stride * scalars_in element + n) j k
    (not_here (Array bs element) (index * stride + o) part (omega (arith, w.fewer)))
    (lt-ltb _ _ (omega (arith, quotient, below))) (ap (λ n. first_scalar element n part) rest ∙ inner)
    (ap (λ n. n * scalars_in element + j) quotient ∙ whole)

pub structure_finds : (members : Members) (o : ℕ) (part : Description) (k : ℕ) → scalar_after 0 members o part ≡ Some k → first_scalar (Structure members) o part ≡ Some k
structure_finds members o part k inner =
    structure_found (stands_here (Structure members) o part) (scalar_after 0 members o part) (Some k)
    (not_here (Structure members) o part (omega (arith, (among 0 members o part k inner).fewer))) inner

pub first_finds : (at : ℕ) (d : Description) (ds : Members) (o : ℕ) (part : Description) (k : ℕ) → 0 < size_of part → first_scalar d o part ≡ Some k
    → scalar_after at (MemberThen d ds) (start_of at d + o) part ≡ Some k
first_finds at d ds o part k sized inner =
    let w = within d o part k inner in
    let start = start_of at d in
    let back : start + o - start ≡ o = omega arith in
    first_found (nat_lt (start + o) (start + size_of d)) (nat_lt (start + o) start) (first_scalar d (start + o - start) part)
    (scalar_after (start + size_of d) ds (start + o) part) (λ j. scalars_in d + j) (Some k)
    (lt-ltb _ _ (omega (arith, w.bytes, sized))) (le-ltb _ _ (omega arith)) (ap (λ n. first_scalar d n part) back ∙ inner)

pub others_find : (at : ℕ) (d : Description) (ds : Members) (o : ℕ) (part : Description) (j : ℕ) → scalar_after (start_of at d + size_of d) ds o part ≡ Some j
    → scalar_after at (MemberThen d ds) o part ≡ Some (scalars_in d + j)
others_find at d ds o part j inner =
    let a = among (start_of at d + size_of d) ds o part j inner in
    others_found (nat_lt o (start_of at d + size_of d)) (nat_lt o (start_of at d)) (first_scalar d (o - start_of at d) part)
    (scalar_after (start_of at d + size_of d) ds o part) (λ n. scalars_in d + n) j (scalars_in d + j)
    (le-ltb _ _ a.low) inner refl

-- ---- parts of parts

from_itself : (whole : Description) (o : ℕ) (part : Description) (k p : ℕ) (d : Description) (j : ℕ) → stands_here whole o part ≡ true → 0 ≡ k
    → first_scalar part p d ≡ Some j → first_scalar whole (o + p) d ≡ Some (k + j)
from_itself whole o part k p d j stands first inner =
    let h = here whole o part stands in
    let at : o + p ≡ p = omega (arith, h.offset_is) in
    let number : j ≡ k + j = omega (arith, first) in
    ap (λ n. first_scalar whole n d) at ∙ ap (λ w. first_scalar w p d) h.part_is ∙ inner ∙ ap Some number

scalar_test : (b : Bool) (k : ℕ) → (if b then Some 0 else None) ≡ Some k → (b ≡ true) × (0 ≡ k)
scalar_test true k e = (refl, same_Some _ _ e)
scalar_test false k e = absurd (none-some k e)

from_scalar : (whole : Description) (o : ℕ) (part : Description) (k p : ℕ) (d : Description) (j : ℕ) → (if stands_here whole o part then Some 0 else None) ≡ Some k
    → first_scalar part p d ≡ Some j → first_scalar whole (o + p) d ≡ Some (k + j)
from_scalar whole o part k p d j e inner =
    let c = scalar_test (stands_here whole o part) k e in
    from_itself whole o part k p d j c.0 c.1 inner

mutual
  pub joined : (whole : Description) (o : ℕ) (part : Description) (k p : ℕ) (d : Description) (j : ℕ) → 0 < size_of d → first_scalar whole o part ≡ Some k
      → first_scalar part p d ≡ Some j → first_scalar whole (o + p) d ≡ Some (k + j)
  joined (FixedBinary n) o part k p d j sized e inner = from_scalar (FixedBinary n) o part k p d j e inner
  joined (Character n) o part k p d j sized e inner = from_scalar (Character n) o part k p d j e inner
  joined (Varying n) o part k p d j sized e inner = from_scalar (Varying n) o part k p d j e inner
  joined (Bit n) o part k p d j sized e inner = from_scalar (Bit n) o part k p d j e inner
  joined Pointer o part k p d j sized e inner = from_scalar Pointer o part k p d j e inner
  joined Offset o part k p d j sized e inner = from_scalar Offset o part k p d j e inner
  joined (Area n) o part k p d j sized e inner = from_scalar (Area n) o part k p d j e inner
  joined (Array bs element) o part k p d j sized e inner = elim (in_array bs element o part k e) [
    | inl c ↦ from_itself (Array bs element) o part k p d j c.0 c.1 inner
    | inr c ↦ let stride = stride_of element in
        let both = joined element (o % stride) part c.number p d j sized c.rest_is inner in
        let parts = div-add-mod' o stride in
        let at : o / stride * stride + (o % stride + p) ≡ o + p = omega (arith, parts) in
        sym (ap (λ n. first_scalar (Array bs element) n d) at)
        ∙ element_found bs element (o % stride + p) (o / stride) d (c.number + j) (k + j) (ltb-true _ _ c.passes) sized both (omega (arith, c.whole))
  ]
  joined (Structure members) o part k p d j sized e inner = elim (in_structure members o part k e) [
    | inl c ↦ from_itself (Structure members) o part k p d j c.0 c.1 inner
    | inr rest ↦ structure_finds members (o + p) d (k + j) (joined_among 0 members o part k p d j sized rest inner)
  ]

  joined_among : (at : ℕ) (ds : Members) (o : ℕ) (part : Description) (k p : ℕ) (d : Description) (j : ℕ) → 0 < size_of d → scalar_after at ds o part ≡ Some k
      → first_scalar part p d ≡ Some j → scalar_after at ds (o + p) d ≡ Some (k + j)
  joined_among at NoMembers o part k p d j sized e inner = absurd (none-some k e)
  joined_among at (MemberThen m ds) o part k p d j sized e inner = elim (in_members at m ds o part k e) [
    | inl c ↦ let start = start_of at m in
        let both = joined m (o - start) part k p d j sized c.rest_is inner in
        let low = ltb-false o start c.above in
        let at_is : start + (o - start + p) ≡ o + p = omega (arith, low) in
        sym (ap (λ n. scalar_after at (MemberThen m ds) n d) at_is) ∙ first_finds at m ds (o - start + p) d (k + j) sized both
    | inr c ↦ let both = joined_among (start_of at m + size_of m) ds o part c.number p d j sized c.rest_is inner in
        let number : scalars_in m + (c.number + j) ≡ k + j = omega (arith, c.whole) in
        others_find at m ds (o + p) d (c.number + j) both ∙ ap Some number
  ]
