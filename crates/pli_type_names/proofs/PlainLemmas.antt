-- Plain descriptions.
use Rattle.std.proofs.Common.{◌≡◌, ℕ, zero, suc, ◌+◌, ◌*◌, ◌<◌, ◌≤◌, true, false, ◌&&◌, nat_le, nat_lt}
use Rattle.std.proofs.Common.{List, [], ◌∷◌, length, Some, refl, ap, sym, ◌∙◌, arith}
use Rattle.std.proofs.lemmas.Bool.{ltb-true, lt-ltb, and_from, and_parts, or_right}
use Rattle.std.proofs.lemmas.Option.{same_Some, none-some}
use Rattle.std.proofs.Math.Nat.{le-mul_of_pos_right}
use Rattle.pli_map.specs.declared.description.Bounds.{Bounds}
use Rattle.pli_map.specs.declared.description.Description.{Description}
use Rattle.pli_map.specs.Description as tree
use Rattle.pli_map.specs.Parts.{PlacedPart, Member, member_after, part_at}
use Rattle.pli_map.specs.Sizes.{count_of, size_of, alignment_of, stride_of}
use Rattle.pli_map.specs.views.DescriptionView.{members_view}
use Rattle.pli_map.proofs.Places.{fits_stride, member_inside}
use Rattle.pli_map.specs.Scalars.{is_area}
use Rattle.pli_type_rules.specs.NamedUnits.{are_bounds, is_plain, all_plain, is_stored, is_valued, may_stand}
use Rattle.std.specs.Int.{next_multiple_of}

-- a dimension with subscripts leaves the test of the others
pub with_subscripts : (extent others : ℕ) → 0 < extent → nat_lt 0 (extent * others) ≡ nat_lt 0 others
with_subscripts zero others h = absurd (omega arith)
with_subscripts (suc n) zero h = let none : suc n * zero ≡ zero = omega arith in ap (nat_lt 0) none
with_subscripts (suc n) (suc m) h = lt-ltb 0 (suc n * suc m) (omega arith) ∙ sym (lt-ltb 0 (suc m) (omega arith))

-- one without leaves none
pub without_subscripts : (extent others : ℕ) → extent ≡ 0 → nat_lt 0 (extent * others) ≡ false
without_subscripts extent others e = let none : extent * others ≡ 0 = rw e (omega arith) in ap (nat_lt 0) none

-- structures have members
pub structure_plain : (xs : List Description) → 0 < length xs
    → is_plain 63 (tree.Structure (members_view xs)) ≡ all_plain 63 (members_view xs)
structure_plain [] h = absurd (omega arith)
structure_plain (x ∷ xs) h = refl

pub structure_empty : (xs : List Description) → length xs ≡ 0
    → is_plain 63 (tree.Structure (members_view xs)) ≡ false
structure_empty [] h = refl
structure_empty (x ∷ xs) h = absurd (omega arith)

pub array_plain : (bs : List Bounds) (e : tree.Description) → 0 < length bs
    → is_plain 63 (tree.Array bs e) ≡ (nat_lt 0 (count_of bs) && are_bounds bs && is_plain 63 e)
array_plain [] e h = absurd (omega arith)
array_plain (b ∷ bs) e h = refl

pub array_empty : (bs : List Bounds) (e : tree.Description) → length bs ≡ 0 → is_plain 63 (tree.Array bs e) ≡ false
array_empty [] e h = refl
array_empty (b ∷ bs) e h = absurd (omega arith)

-- ---- what a variable may be

-- a plain description may be that of a variable
pub plain_stands : (d : tree.Description) → is_plain 63 d ≡ true → may_stand 63 d ≡ true
plain_stands d h = or_right (is_area d) (is_plain 63 d) h

pub valued_stored : (d : tree.Description) → is_valued 63 d ≡ true → is_stored 63 d ≡ true
valued_stored d h =
    let both = and_parts (is_plain 63 d) (nat_le (size_of d) 1000000) h in
    and_from (may_stand 63 d) (nat_le (size_of d) 1000000) (plain_stands d both.0) both.1

-- ---- what is in a plain description is plain

pub record PlainArray (bs : List Bounds) (e : tree.Description) : Type 0 where
  pub elements : 0 < count_of bs
  pub element : is_plain 63 e ≡ true

pub plain_array : (bs : List Bounds) (e : tree.Description) → is_plain 63 (tree.Array bs e) ≡ true → PlainArray bs e
plain_array [] e h = cc
plain_array (b ∷ bs) e h =
    let all = and_parts (nat_lt 0 (count_of (b ∷ bs)) && are_bounds (b ∷ bs)) (is_plain 63 e) h in
    let both = and_parts (nat_lt 0 (count_of (b ∷ bs))) (are_bounds (b ∷ bs)) all.0 in
    record { elements = ltb-true 0 (count_of (b ∷ bs)) both.0; element = all.1 }

pub plain_member : (at : ℕ) (ds : tree.Members) (i : ℕ) (p : PlacedPart) → all_plain 63 ds ≡ true
    → member_after at ds i ≡ Some p → is_plain 63 p.description ≡ true
plain_member at tree.NoMembers i p h e = absurd (none-some p e)
plain_member at (tree.MemberThen d ds) zero p h e =
    let is : d ≡ p.description = ap (λ q. q.description) (same_Some _ p e) in
    ap (is_plain 63) (sym is) ∙ (and_parts (is_plain 63 d) (all_plain 63 ds) h).0
plain_member at (tree.MemberThen d ds) (suc i) p h e =
    plain_member (next_multiple_of at (alignment_of d) + size_of d) ds i p
    (and_parts (is_plain 63 d) (all_plain 63 ds) h).1 e

plain_members : (ds : tree.Members) → is_plain 63 (tree.Structure ds) ≡ true → all_plain 63 ds ≡ true
plain_members tree.NoMembers h = refl
plain_members (tree.MemberThen d ds) h = h

-- a member of a plain structure is plain, and lies within it
pub record PlainMember (d : tree.Description) (p : PlacedPart) : Type 0 where
  pub plain : is_plain 63 p.description ≡ true
  pub within : p.offset + size_of p.description ≤ size_of d

pub plain_step : (d : tree.Description) (i : ℕ) (p : PlacedPart) → may_stand 63 d ≡ true
    → part_at d (Member i) ≡ Some p → PlainMember d p
plain_step (tree.Structure ds) i p h e = record {
  plain = plain_member 0 ds i p (plain_members ds h) e;
  within = (member_inside 0 ds i p e).1;
}
plain_step d i p h e = absurd (none-some p e)

-- an element takes no more than its array
pub element_size : (bs : List Bounds) (e : tree.Description) → 0 < count_of bs → size_of e ≤ size_of (tree.Array bs e)
element_size bs e h =
    let fits = fits_stride e in
    let more : stride_of e ≤ stride_of e * count_of bs = le-mul_of_pos_right (stride_of e) h in
    omega (arith, fits, more)
