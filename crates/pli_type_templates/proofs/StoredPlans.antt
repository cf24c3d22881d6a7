-- The scalars to which the plan of a variable leads.
use Rattle.std.proofs.Common.{◌≡◌, ℕ, zero, suc, ◌+◌, ◌*◌, ◌-◌, ◌<◌, ◌≤◌, nat_lt, nat_le, true, false, ◌||◌, Option, Some, None, List, [], ◌∷◌, length, get_or, drop, sym, ap, subst, ◌∙◌, refl, arith}
use Rattle.std.specs.Global.{Global}
use Rattle.std.specs.Prelude.{IfSome, Vec}
use Rattle.std.specs.Int.{next_multiple_of}
use Rattle.std.proofs.lemmas.Bool.{leb-true, ltb-true, and_parts}
use Rattle.std.proofs.Math.Nat.{le-mul_of_pos_right}
use Rattle.pli_map.specs.Description.{Description, FixedBinary, Character, Varying, Bit, Pointer, Offset, Area, Array, Structure}
use Rattle.pli_map.specs.Description.{Members, NoMembers, MemberThen}
use Rattle.pli_map.specs.Sizes.{alignment_of, count_of, end_after, size_of, stride_of}
use Rattle.pli_map.specs.declared.description.Bounds.{Bounds}
use Rattle.pli_map.specs.declared.description.Description as program
use Rattle.pli_map.specs.declared.description.Description.TheVariants as made
use Rattle.pli_map.specs.views.DescriptionView.{description_view, members_view}
use Rattle.pli_map.proofs.Members.{later, next_member}
use Rattle.pli_map.proofs.Places.{fits_stride}
use Rattle.pli_map.proofs.ScalarPlaces.{nodes, nodes_among}
use Rattle.pli_bytes.proofs.DescriptionTrees.{structure_view}
use Rattle.pli_map.specs.Scalars.{is_area}
use Rattle.pli_type_rules.specs.NamedUnits.{all_plain, is_length, is_plain, is_stored, is_valued, may_stand}
use Rattle.pli_type_names.proofs.PlainLemmas.{plain_array}
use Rattle.pli_type_templates.specs.Plans.{IsStoredLeaf, IsStoredPlan, Leaf, NoPlans, OfStructure, Plan, is_compiled_scalar, leaf_in, leaf_in_member, levels_in, levels_in_member, plan_from, plans_from}
use Rattle.pli_type_templates.specs.declared.plan.ArrayLevel.{ArrayLevel}

-- a string has at most 32,767 elements
pub few : (n : ℕ) → is_length n ≡ true → n ≤ 32767
few n h = leb-true n 32767 (and_parts (nat_lt 0 n) (nat_le n 32767) h).1

pub few_bits : (n : ℕ) → is_compiled_scalar (Bit n) ≡ true → n ≤ 32767
few_bits n h = few n h

-- members of a plain structure are plain
pub members_plain : (ds : Members) → is_plain 63 (Structure ds) ≡ true → all_plain 63 ds ≡ true
members_plain NoMembers h = refl
members_plain (MemberThen d ds) h = h

-- an element of an array takes bytes
mutual
  pub plain_positive : (d : Description) → is_plain 63 d ≡ true → 0 < size_of d
  plain_positive (FixedBinary p) h = grind arith
  plain_positive (Character n) h = ltb-true 0 n (and_parts (nat_lt 0 n) (nat_le n 32767) h).0
  plain_positive (Varying n) h = omega arith
  plain_positive (Bit n) h = let some = ltb-true 0 n (and_parts (nat_lt 0 n) (nat_le n 32767) h).0 in omega arith
  plain_positive Pointer h = omega arith
  plain_positive Offset h = omega arith
  plain_positive (Area n) h = cc
  plain_positive (Array bounds element) h =
      let a = plain_array bounds element h in
      let one = plain_positive element a.element in
      let fits = fits_stride element in
      let more : stride_of element ≤ stride_of element * count_of bounds = le-mul_of_pos_right (stride_of element) a.elements in
      omega (arith, one, fits, more)
  plain_positive (Structure NoMembers) h = cc
  plain_positive (Structure (MemberThen d ds)) h =
      let one = plain_positive d (and_parts (is_plain 63 d) (all_plain 63 ds) h).0 in
      let end = later (next_multiple_of 0 (alignment_of d) + size_of d) ds in
      omega (arith, one, end)

-- ---- an array within its bytes

pub record ArrayFits (bs : List Bounds) (e : Description) (first : ℕ) : Type 0 where
  pub few : count_of bs ≤ 1000000
  pub stride : stride_of e ≤ 1000000
  pub element : first + size_of e ≤ 1000000

pub array_fits : (bs : List Bounds) (e : Description) (first : ℕ) → 0 < count_of bs → is_plain 63 e ≡ true
    → first + count_of bs * stride_of e ≤ 1000000 → ArrayFits bs e first
array_fits bs e first some plain room =
    let one = plain_positive e plain in
    let fits = fits_stride e in
    let more : stride_of e ≤ stride_of e * count_of bs = le-mul_of_pos_right (stride_of e) some in
    let many : count_of bs ≤ count_of bs * stride_of e = le-mul_of_pos_right (count_of bs) (omega (arith, one, fits)) in
    record { few = omega (arith, many, room); stride = omega (arith, more, room); element = omega (arith, fits, more, room) }

-- a factor of what is more than nothing is no more than it
pub left_factor : (a b whole : ℕ) → a * b ≡ whole → 0 < whole → a ≤ whole
left_factor a zero whole e h = absurd (omega arith)
left_factor a (suc b) whole e h = let more : a ≤ a * suc b = le-mul_of_pos_right a (omega arith) in omega (arith, more, e)

-- the current member ends within the members that are left
pub member_room : (xs : List program.Description) (i : ℕ) (x : program.Description) (ended whole : ℕ) → i < length xs → x ≡ get_or xs i x
    → end_after ended (members_view (drop i xs)) ≡ whole
    → next_multiple_of ended (alignment_of (description_view x)) + size_of (description_view x) ≤ whole
member_room xs i x ended whole h is end =
    let d = description_view x in
    let rest = members_view (drop (i + 1) xs) in
    let start = next_multiple_of ended (alignment_of d) in
    let e : end_after ended (members_view (drop i xs)) ≡ end_after (start + size_of d) rest = ap (end_after ended) (next_member xs i x h is) in
    omega (arith, later (start + size_of d) rest, e, end)

-- the current member is plain, and so are those after it
pub member_plain : (xs : List program.Description) (i : ℕ) (x : program.Description) → i < length xs → x ≡ get_or xs i x
    → all_plain 63 (members_view (drop i xs)) ≡ true
    → (is_plain 63 (description_view x) ≡ true) × (all_plain 63 (members_view (drop (i + 1) xs)) ≡ true)
member_plain xs i x h is plain =
    and_parts (is_plain 63 (description_view x)) (all_plain 63 (members_view (drop (i + 1) xs)))
    (sym (ap (all_plain 63) (next_member xs i x h is)) ∙ plain)

-- a structure has one description more in it than its members
pub members_counted : (d : program.Description) (v : Vec program.Description Global) (xs : List program.Description) → d ≡ made.Structure v → xs ≡ v.items
    → nodes (description_view d) ≡ suc (nodes_among (members_view xs))
members_counted d v xs e there =
    ap nodes (structure_view d v e) ∙ ap (λ ys. suc (nodes_among (members_view ys))) (sym there)

-- the members of a structure that is plain and ends within so many bytes
pub members_stored : (d : program.Description) (v : Vec program.Description Global) (xs : List program.Description) (first : ℕ) → d ≡ made.Structure v → xs ≡ v.items
    → is_plain 63 (description_view d) ≡ true → first + size_of (description_view d) ≤ 1000000
    → (all_plain 63 (members_view xs) ≡ true) × (first + end_after 0 (members_view xs) ≤ 1000000)
members_stored d v xs first e there plain room =
    let is : description_view d ≡ Structure (members_view xs) = structure_view d v e ∙ ap (λ ys. Structure (members_view ys)) (sym there) in
    let sized : size_of (description_view d) ≡ end_after 0 (members_view xs) = ap size_of is in
    (members_plain (members_view xs) (sym (ap (is_plain 63) is) ∙ plain), omega (arith, room, sized))

-- ---- elements of arrays in one another

pub reach_more : (at distance count passed most : ℕ) → passed < count → at + (count - passed) * distance ≤ most
    → at + distance + (count - (passed + 1)) * distance ≤ most
reach_more at distance count passed most h reach =
    let e : count - passed ≡ suc (count - (passed + 1)) = omega arith in
    let f = ap (λ n. n * distance) e in
    omega (arith, reach, f)

-- ---- ways

within : (o : Option Leaf) (levels : List ArrayLevel) (from bytes start size : ℕ) → from ≤ start → start + size ≤ from + bytes
    → IfSome o (IsStoredLeaf start size levels) → IfSome o (IsStoredLeaf from bytes levels)
within None levels from bytes start size h k s = s
within (Some leaf) levels from bytes start size h k s = record {
  first = omega (arith, s.first, k);
  over = omega (arith, s.over, h, k);
  nested = s.nested;
  scalar = s.scalar;
}

of_array : (o : Option Leaf) (levels : List ArrayLevel) (from : ℕ) (bs : List Bounds) (e : Description) → 0 < count_of bs
    → IfSome o (IsStoredLeaf from (size_of e) levels)
    → IfSome o (IsStoredLeaf from (size_of (Array bs e)) (record { count = count_of bs; distance = stride_of e } ∷ levels))
of_array None levels from bs e some s = s
of_array (Some leaf) levels from bs e some s =
    let fits = fits_stride e in
    let more : stride_of e ≤ stride_of e * count_of bs = le-mul_of_pos_right (stride_of e) some in
    record {
      first = omega (arith, s.first, fits, more);
      over = omega arith;
      nested = (omega (arith, s.over, fits), s.nested);
      scalar = s.scalar;
    }

mutual
  pub stored_on : (d : Description) (from : ℕ) (path : List ℕ) → is_plain 63 d ≡ true
      → IfSome (leaf_in (plan_from from d) path) (IsStoredLeaf from (size_of d) (levels_in (plan_from from d) path))
  stored_on (FixedBinary p) from path h = record { first = omega arith; over = omega arith; nested = tt; scalar = h }
  stored_on (Character n) from path h = record { first = omega arith; over = omega arith; nested = tt; scalar = h }
  stored_on (Varying n) from path h = record { first = omega arith; over = omega arith; nested = tt; scalar = h }
  stored_on (Bit n) from path h = record { first = omega arith; over = omega arith; nested = tt; scalar = h }
  stored_on Pointer from path h = record { first = omega arith; over = omega arith; nested = tt; scalar = h }
  stored_on Offset from path h = record { first = omega arith; over = omega arith; nested = tt; scalar = h }
  stored_on (Area n) from path h = cc
  stored_on (Array bs e) from path h =
      let a = plain_array bs e h in
      of_array (leaf_in (plan_from from e) path) (levels_in (plan_from from e) path) from bs e a.elements (stored_on e from path a.element)
  stored_on (Structure ds) from [] h = tt
  stored_on (Structure ds) from (i ∷ path) h = stored_in ds i path from 0 (members_plain ds h)

  stored_in : (ds : Members) (i : ℕ) (path : List ℕ) (from ended : ℕ) → all_plain 63 ds ≡ true
      → IfSome (leaf_in_member (plans_from from ended ds) i path) (IsStoredLeaf from (end_after ended ds) (levels_in_member (plans_from from ended ds) i path))
  stored_in NoMembers i path from ended h = tt
  stored_in (MemberThen d ds) zero path from ended h =
      let start = next_multiple_of ended (alignment_of d) in
      let plain = and_parts (is_plain 63 d) (all_plain 63 ds) h in
      let end = later (start + size_of d) ds in
      within (leaf_in (plan_from (from + start) d) path) (levels_in (plan_from (from + start) d) path) from (end_after ended (MemberThen d ds)) (from + start) (size_of d)
      (omega arith) (omega (arith, end)) (stored_on d (from + start) path plain.0)
  stored_in (MemberThen d ds) (suc i) path from ended h =
      let plain = and_parts (is_plain 63 d) (all_plain 63 ds) h in
      stored_in ds i path from (next_multiple_of ended (alignment_of d) + size_of d) plain.1

pub stored_leaf : (p : Plan) (path : List ℕ) (leaf : Leaf) → IsStoredPlan p → leaf_in p path ≡ Some leaf
    → IsStoredLeaf 0 1000000 (levels_in p path) leaf
stored_leaf p path leaf s e = subst (λ o. IfSome o (IsStoredLeaf 0 1000000 (levels_in p path))) e (s path)

-- ---- the plan of a variable

-- of one of values
valued_plan : (d : Description) → is_valued 63 d ≡ true → IsStoredPlan (plan_from 0 d)
valued_plan d h path =
    let both = and_parts (is_plain 63 d) (nat_le (size_of d) 1000000) h in
    let room = leb-true (size_of d) 1000000 both.1 in
    within (leaf_in (plan_from 0 d) path) (levels_in (plan_from 0 d) path) 0 1000000 0 (size_of d) (omega arith) (omega (arith, room)) (stored_on d 0 path both.0)

-- of any
pub stored_plan : (d : Description) → is_stored 63 d ≡ true → IsStoredPlan (plan_from 0 d)
stored_plan (FixedBinary p) h path = valued_plan (FixedBinary p) h path
stored_plan (Character n) h path = valued_plan (Character n) h path
stored_plan (Varying n) h path = valued_plan (Varying n) h path
stored_plan (Bit n) h path = valued_plan (Bit n) h path
stored_plan Pointer h path = valued_plan Pointer h path
stored_plan Offset h path = valued_plan Offset h path
stored_plan (Area n) h [] = tt
stored_plan (Area n) h (i ∷ path) = tt
stored_plan (Array bounds element) h path = valued_plan (Array bounds element) h path
stored_plan (Structure members) h path = valued_plan (Structure members) h path

-- an area has no scalars
pub area_plan : (d : Description) → is_area d ≡ true → OfStructure NoPlans ≡ plan_from 0 d
area_plan (FixedBinary p) h = cc
area_plan (Character n) h = cc
area_plan (Varying n) h = cc
area_plan (Bit n) h = cc
area_plan Pointer h = cc
area_plan Offset h = cc
area_plan (Area n) h = refl
area_plan (Array bounds element) h = cc
area_plan (Structure members) h = cc

-- what is no area is plain
pub stored_plain : (d : Description) → is_stored 63 d ≡ true → is_area d ≡ false → is_plain 63 d ≡ true
stored_plain d h other =
    ap (λ b. b || is_plain 63 d) (sym other) ∙ (and_parts (may_stand 63 d) (nat_le (size_of d) 1000000) h).0

pub stored_room : (d : Description) → is_stored 63 d ≡ true → 0 + size_of d ≤ 1000000
stored_room d h =
    let room = leb-true (size_of d) 1000000 ((and_parts (may_stand 63 d) (nat_le (size_of d) 1000000) h).1) in
    omega (arith, room)
