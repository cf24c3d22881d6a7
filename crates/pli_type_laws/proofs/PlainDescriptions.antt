-- What plain descriptions have: each takes bytes, and its members and elements are plain. A variable may be an area too.
use Rattle.std.specs.Prelude.{◌≡◌, ℕ, zero, suc, ◌+◌, ◌<◌, nat_lt, nat_le, unsigned_abs, Bool, true, false, ◌&&◌, Some, List, [], ◌∷◌, refl}
use Rattle.std.proofs.Common.{sym, ◌∙◌, ap, arith}
use Rattle.std.specs.Int.{next_multiple_of}
use Rattle.std.proofs.lemmas.Bool.{and_parts, and_from, or_right, leb-true, ltb-true}
use Rattle.std.proofs.lemmas.Option.{same_Some, none-some}
use Rattle.pli_map.specs.Description.{Description, FixedBinary, Character, Varying, Bit, Pointer, Offset, Area, Array, Structure, Members, NoMembers, MemberThen}
use Rattle.pli_map.specs.ParameterTypes.{ParameterType, Stated}
use Rattle.pli_map.specs.Parts.{PlacedPart, member_after}
use Rattle.pli_map.specs.ScalarPaths.{is_filled, are_filled}
use Rattle.pli_map.specs.Scalars.{is_area}
use Rattle.pli_map.specs.Sizes.{count_of, alignment_of, size_of}
use Rattle.pli_map.specs.declared.description.Bounds.{Bounds}
use Rattle.pli_map.proofs.ScalarLawsHold.{takes_bytes}
use Rattle.pli_type_rules.specs.NamedUnits.{is_plain, all_plain, are_bounds, is_valued, may_stand, may_be, is_stored}
use Rattle.pli_type_tree.specs.WellTyped.{AreNear, IsNarrowDescription, IsNarrow}

not_true : false ≡ true → ⊥
not_true e = absurd (cc)

both : (a b : Bool) → a ≡ true → b ≡ true → (a && b) ≡ true
both a b p q = rw (p, q) refl

-- an array has elements, and its element is plain, whatever else is asked of it
plain_count : (n : ℕ) (b : Bounds) (bs : List Bounds) (e : Description) → is_plain n (Array (b ∷ bs) e) ≡ true → nat_lt 0 (count_of (b ∷ bs)) ≡ true
plain_count n b bs e h = grind (arith, h)

plain_inner : (n : ℕ) (b : Bounds) (bs : List Bounds) (e : Description) → is_plain n (Array (b ∷ bs) e) ≡ true → is_plain n e ≡ true
plain_inner n b bs e h = grind (arith, h)

mutual
  pub plain_filled : (n : ℕ) (d : Description) → is_plain n d ≡ true → is_filled d ≡ true
  plain_filled n (FixedBinary p) h = refl
  plain_filled n (Character k) h = (and_parts (nat_lt 0 k) (nat_le k 32767) h).0
  plain_filled n (Varying k) h = (and_parts (nat_lt 0 k) (nat_le k 32767) h).0
  plain_filled n (Bit k) h = (and_parts (nat_lt 0 k) (nat_le k 32767) h).0
  plain_filled n Pointer h = refl
  plain_filled n Offset h = refl
  plain_filled n (Area k) h = absurd (not_true h)
  plain_filled n (Array [] e) h = absurd (not_true h)
  plain_filled n (Array (b ∷ bs) e) h = both _ _ (plain_count n b bs e h) (plain_filled n e (plain_inner n b bs e h))
  plain_filled n (Structure NoMembers) h = absurd (not_true h)
  plain_filled n (Structure (MemberThen d ds)) h =
      let p = and_parts (is_plain n d) (all_plain n ds) h in
      both _ _ (plain_filled n d p.0) (all_filled n ds p.1)

  all_filled : (n : ℕ) (ds : Members) → all_plain n ds ≡ true → are_filled ds ≡ true
  all_filled n NoMembers h = refl
  all_filled n (MemberThen d ds) h =
      let p = and_parts (is_plain n d) (all_plain n ds) h in
      both _ _ (plain_filled n d p.0) (all_filled n ds p.1)

-- there is an element at least
pub plain_elements : (n : ℕ) (bs : List Bounds) (e : Description) → is_plain n (Array bs e) ≡ true → 0 < count_of bs
plain_elements n [] e h = absurd (not_true h)
plain_elements n (b ∷ bs) e h = ltb-true 0 (count_of (b ∷ bs)) (plain_count n b bs e h)

pub plain_takes : (n : ℕ) (d : Description) → is_plain n d ≡ true → 0 < size_of d
plain_takes n d h = (takes_bytes d (plain_filled n d h)).0

-- an array has a dimension, and its element is plain
pub plain_element : (n : ℕ) (bs : List Bounds) (e : Description) → is_plain n (Array bs e) ≡ true → is_plain n e ≡ true
plain_element n [] e h = absurd (not_true h)
plain_element n (b ∷ bs) e h = plain_inner n b bs e h

pub plain_dimension : (n : ℕ) (e : Description) → is_plain n (Array [] e) ≡ true → ⊥
plain_dimension n e h = not_true h

pub plain_members : (n : ℕ) (ds : Members) → is_plain n (Structure ds) ≡ true → all_plain n ds ≡ true
plain_members n NoMembers h = refl
plain_members n (MemberThen d ds) h = h

-- each member is plain
pub plain_member : (n at : ℕ) (ds : Members) (i : ℕ) (m : PlacedPart) → all_plain n ds ≡ true → member_after at ds i ≡ Some m
    → is_plain n m.description ≡ true
plain_member n at NoMembers i m h e = absurd (none-some m e)
plain_member n at (MemberThen d ds) zero m h e =
    let is = same_Some _ m e in
    sym (ap (λ (p : PlacedPart). is_plain n p.description) is) ∙ (and_parts (is_plain n d) (all_plain n ds) h).0
plain_member n at (MemberThen d ds) (suc i) m h e =
    plain_member n (next_multiple_of at (alignment_of d) + size_of d) ds i m (and_parts (is_plain n d) (all_plain n ds) h).1 e

-- ---- variables

-- a plain description is none of an area
pub plain_no_area : (n : ℕ) (d : Description) → is_plain n d ≡ true → is_area d ≡ false
plain_no_area n (Area k) h = absurd (not_true h)
plain_no_area n d h = refl

-- a variable may be of it
pub plain_stands : (n : ℕ) (d : Description) → is_plain n d ≡ true → may_stand n d ≡ true
plain_stands n d h = or_right (is_area d) (is_plain n d) h

-- what is stored may stand; a value is plain, and is stored
pub stored_stands : (n : ℕ) (d : Description) → is_stored n d ≡ true → may_stand n d ≡ true
stored_stands n d h = (and_parts (may_stand n d) (nat_le (size_of d) 1000000) h).0

pub valued_plain : (n : ℕ) (d : Description) → is_valued n d ≡ true → is_plain n d ≡ true
valued_plain n d h = (and_parts (is_plain n d) (nat_le (size_of d) 1000000) h).0

pub valued_stored : (n : ℕ) (d : Description) → is_valued n d ≡ true → is_stored n d ≡ true
valued_stored n d h =
    let both = and_parts (is_plain n d) (nat_le (size_of d) 1000000) h in
    and_from (may_stand n d) (nat_le (size_of d) 1000000) (plain_stands n d both.0) both.1

-- ---- lengths and bounds

pub bounds_near : (bs : List Bounds) → are_bounds bs ≡ true → AreNear bs
bounds_near [] h = tt
bounds_near (b ∷ bs) h =
    let both = and_parts (nat_le (unsigned_abs b.low) 32768 && nat_le (unsigned_abs b.high) 32768) (are_bounds bs) h in
    let here = and_parts (nat_le (unsigned_abs b.low) 32768) (nat_le (unsigned_abs b.high) 32768) both.0 in
    (leb-true (unsigned_abs b.low) 32768 here.0, leb-true (unsigned_abs b.high) 32768 here.1, bounds_near bs both.1)

plain_narrow : (n : ℕ) (d : Description) → is_plain n d ≡ true → IsNarrowDescription d
plain_narrow n (Character k) h = leb-true k 32767 (and_parts (nat_lt 0 k) (nat_le k 32767) h).1
plain_narrow n (Varying k) h = leb-true k 32767 (and_parts (nat_lt 0 k) (nat_le k 32767) h).1
plain_narrow n (Bit k) h = leb-true k 32767 (and_parts (nat_lt 0 k) (nat_le k 32767) h).1
plain_narrow n (Array [] e) h = absurd (not_true h)
plain_narrow n (Array (b ∷ bs) e) h =
    let all = and_parts (nat_lt 0 (count_of (b ∷ bs)) && are_bounds (b ∷ bs)) (is_plain n e) h in
    let both = and_parts (nat_lt 0 (count_of (b ∷ bs))) (are_bounds (b ∷ bs)) all.0 in
    (bounds_near (b ∷ bs) both.1, plain_narrow n e all.1)
plain_narrow n d h = tt

stands_narrow : (n : ℕ) (d : Description) → may_stand n d ≡ true → IsNarrowDescription d
stands_narrow n (Area k) h = tt
stands_narrow n d h = plain_narrow n d h

-- what a variable may be is no longer, and no bound farther, than so
pub may_narrow : (n : ℕ) (type : ParameterType) → may_be n type ≡ true → IsNarrow type
may_narrow n (Stated d) h = stands_narrow n d h
may_narrow n type h = tt
