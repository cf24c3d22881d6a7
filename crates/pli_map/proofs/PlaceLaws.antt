-- The laws of sizes and parts.
use Rattle.std.proofs.Common.{◌≡◌, ◌≢◌, ℕ, zero, suc, ◌+◌, ◌*◌, ◌%◌, ◌<◌, ◌≤◌, Bool, true, false, nat_le, int_le, ℤ, ◌<ℤ◌, ◌≤ℤ◌, ◌-ℤ◌, unsigned_abs, List, [], ◌∷◌, ◌++◌, Option, Some, None, IsSome, option_map, option_and_then, if◌then◌else◌, refl, ap, sym, ◌∙◌, subst, add_assoc, add-zero, arith, inl, inr}
use Rattle.std.specs.Int.{next_multiple_of}
use Rattle.std.proofs.lemmas.Bool.{cases_order}
use Rattle.std.proofs.lemmas.Int.{ints}
use Rattle.std.proofs.lemmas.Option.{same_Some, none-some}
use Rattle.std.proofs.Math.Nat.{mul-le-mul_right}
use Rattle.pli_map.specs.declared.description.Bounds.{Bounds}
use Rattle.pli_map.specs.Description.{Description, FixedBinary, Character, Varying, Bit, Pointer, Offset, Area, Array, Structure, Members, NoMembers, MemberThen}
use Rattle.pli_map.specs.laws.Laws.{Apart, PartsDoNotMeet, PartsLieWithin, PartsStandAligned, AreasAreRounded, WithinBounds, ElementsAreWithinBounds, ElementsAreInRowMajorOrder}
use Rattle.pli_map.specs.Parts.{PathStep, Member, Element, PlacedPart, index_of, member_after, part_at, moved, place_of}
use Rattle.pli_map.specs.Sizes.{count_of, alignment_of, greatest_alignment, size_of, stride_of}
use Rattle.pli_map.proofs.MultipleLemmas.{IsAlignment, sum_aligned, next_aligned, times_aligned, divides, greater}
use Rattle.pli_map.proofs.Places.{met, turns, MemberStep, ElementStep, element_part, step_is, step_inside, index_below, index_apart, members_apart, element_inside, fits_stride}

-- ---- alignments

fixed_binary : (b c : Bool) → IsAlignment (if b then 2 else (if c then 4 else 8))
fixed_binary true c = inr (inl refl)
fixed_binary false true = inr (inr (inl refl))
fixed_binary false false = inr (inr (inr refl))

mutual
  pub four_alignments : (d : Description) → IsAlignment (alignment_of d)
  four_alignments (FixedBinary p) = fixed_binary (nat_le p 15) (nat_le p 31)
  four_alignments (Character n) = inl refl
  four_alignments (Varying n) = inr (inl refl)
  four_alignments (Bit n) = inl refl
  four_alignments Pointer = inr (inr (inl refl))
  four_alignments Offset = inr (inr (inl refl))
  four_alignments (Area n) = inr (inr (inr refl))
  four_alignments (Array bounds element) = four_alignments element
  four_alignments (Structure members) = of_members members

  of_members : (ds : Members) → IsAlignment (greatest_alignment ds)
  of_members NoMembers = inl refl
  of_members (MemberThen d ds) = greater _ _ (four_alignments d) (of_members ds)

-- ---- the parts of one step

-- a member is aligned no more than the greatest, and stands at a multiple of its alignment
member_aligned : (at : ℕ) (ds : Members) (i : ℕ) (p : PlacedPart) → member_after at ds i ≡ Some p → (alignment_of p.description ≤ greatest_alignment ds) × (p.offset % alignment_of p.description ≡ 0)
member_aligned at NoMembers i p e = absurd (none-some p e)
member_aligned at (MemberThen d ds) zero p e =
    let is = same_Some _ p e in
    let Claim : PlacedPart → Type 0 = λ q. (alignment_of q.description ≤ greatest_alignment (MemberThen d ds)) × (q.offset % alignment_of q.description ≡ 0) in
    subst Claim is (omega arith, next_aligned (alignment_of d) at (four_alignments d))
member_aligned at (MemberThen d ds) (suc i) p e =
    let inner = member_aligned (next_multiple_of at (alignment_of d) + size_of d) ds i p e in
    (omega (arith, inner.0), inner.1)

step_aligned : (d : Description) (s : PathStep) (p : PlacedPart) (at : ℕ) → at % alignment_of d ≡ 0 → part_at d s ≡ Some p → (at + p.offset) % alignment_of p.description ≡ 0
step_aligned d s p at whole e = elim (step_is d s p e) [
  | inl m ↦ let aligned = member_aligned 0 m.members m.number p m.part_is in
      let whole' : at % greatest_alignment m.members ≡ 0 = sym (ap (λ w. at % alignment_of w) m.whole_is) ∙ whole in
      sum_aligned (alignment_of p.description) at p.offset (four_alignments p.description)
      (divides _ _ at (four_alignments p.description) (of_members m.members) aligned.0 whole') aligned.1
  | inr m ↦ let whole' : at % alignment_of m.element ≡ 0 = sym (ap (λ w. at % alignment_of w) m.whole_is) ∙ whole in
      let is = four_alignments m.element in
      subst (λ (q : PlacedPart). (at + q.offset) % alignment_of q.description ≡ 0) m.part_is
      (sum_aligned (alignment_of m.element) at (m.index * stride_of m.element) is whole' (times_aligned _ m.index _ is (next_aligned _ (size_of m.element) is)))
]

members_are_apart : (ds : Members) (i j : ℕ) (p q : PlacedPart) → i ≢ j → member_after 0 ds i ≡ Some p → member_after 0 ds j ≡ Some q → Apart p q
members_are_apart ds i j p q other e f = elim (cases_order i j) [
  | inl same ↦ absurd (other same)
  | inr (inl before) ↦ inl (members_apart 0 ds i j p q before e f)
  | inr (inr after) ↦ inr (members_apart 0 ds j i q p after f e)
]

elements_are_apart : (e : Description) (k l : ℕ) → k ≢ l → Apart (element_part k e) (element_part l e)
elements_are_apart e k l other = elim (cases_order k l) [
  | inl same ↦ absurd (other same)
  | inr (inl before) ↦ inl (element_inside k l (stride_of e) (size_of e) before (fits_stride e))
  | inr (inr after) ↦ inr (element_inside l k (stride_of e) (size_of e) after (fits_stride e))
]

both_members : (d : Description) (s t : PathStep) (p q : PlacedPart) → s ≢ t → MemberStep d s p → MemberStep d t q → Apart p q
both_members d s t p q other m n =
    let same : m.members ≡ n.members = cc in
    members_are_apart m.members m.number n.number p q (λ e. other (m.step_is ∙ ap Member e ∙ sym n.step_is)) m.part_is (ap (λ ds. member_after 0 ds n.number) same ∙ n.part_is)

both_elements : (d : Description) (s t : PathStep) (p q : PlacedPart) → s ≢ t → ElementStep d s p → ElementStep d t q → Apart p q
both_elements d s t p q other m n =
    let bounds : m.bounds ≡ n.bounds = cc in
    let element : m.element ≡ n.element = cc in
    let there : index_of m.bounds n.subscripts ≡ Some n.index = ap (λ bs. index_of bs n.subscripts) bounds ∙ n.index_is in
    let apart : m.index ≢ n.index = λ e. other (m.step_is ∙ ap Element (index_apart m.bounds m.subscripts n.subscripts n.index (m.index_is ∙ ap Some e) there) ∙ sym n.step_is) in
    let q_is : element_part n.index m.element ≡ q = ap (element_part n.index) element ∙ n.part_is in
    subst (λ r. Apart p r) q_is (subst (λ r. Apart r (element_part n.index m.element)) m.part_is (elements_are_apart m.element m.index n.index apart))

steps_are_apart : (d : Description) (s t : PathStep) (p q : PlacedPart) → s ≢ t → part_at d s ≡ Some p → part_at d t ≡ Some q → Apart p q
steps_are_apart d s t p q other e f = elim (step_is d s p e) [
  | inl m ↦ elim (step_is d t q f) [ inl n ↦ both_members d s t p q other m n | inr n ↦ absurd (cc (m.whole_is, n.whole_is)) ]
  | inr m ↦ elim (step_is d t q f) [ inl n ↦ absurd (cc (m.whole_is, n.whole_is)) | inr n ↦ both_elements d s t p q other m n ]
]

-- ---- the parts of a path

-- how a path that is not empty leads to its part
pub record Leads (d : Description) (s : PathStep) (path : List PathStep) (p : PlacedPart) : Type 0 where
  pub first : PlacedPart
  pub rest : PlacedPart
  pub first_is : part_at d s ≡ Some first
  pub rest_is : place_of first.description path ≡ Some rest
  pub whole : moved first.offset rest ≡ p

leads_on : (d : Description) (s : PathStep) (path : List PathStep) (p a : PlacedPart) (o : Option PlacedPart) → part_at d s ≡ Some a → place_of a.description path ≡ o → option_map (moved a.offset) o ≡ Some p → Leads d s path p
leads_on d s path p a None first o_is e = absurd (none-some p e)
leads_on d s path p a (Some b) first o_is e = record { first = a; rest = b; first_is = first; rest_is = o_is; whole = same_Some _ p e }

leads_of : (d : Description) (s : PathStep) (path : List PathStep) (p : PlacedPart) (o : Option PlacedPart) → part_at d s ≡ o
    → option_and_then (λ a. option_map (moved a.offset) (place_of a.description path)) o ≡ Some p → Leads d s path p
leads_of d s path p None o_is e = absurd (none-some p e)
leads_of d s path p (Some a) o_is e = leads_on d s path p a (place_of a.description path) o_is refl e

pub leads : (d : Description) (s : PathStep) (path : List PathStep) (p : PlacedPart) → place_of d (s ∷ path) ≡ Some p → Leads d s path p
leads d s path p e = leads_of d s path p (part_at d s) refl e

pub lie_within : PartsLieWithin
lie_within d [] p e = subst (λ (q : PlacedPart). q.offset + size_of q.description ≤ size_of d) (same_Some _ p e) (omega arith)
lie_within d (s ∷ path) p e =
    let l = leads d s path p e in
    let outer = step_inside d s l.first l.first_is in
    let inner = lie_within l.first.description path l.rest l.rest_is in
    subst (λ (q : PlacedPart). q.offset + size_of q.description ≤ size_of d) l.whole (omega (arith, outer, inner))

pub stand_aligned : PartsStandAligned
stand_aligned d [] p at whole e = subst (λ (q : PlacedPart). (at + q.offset) % alignment_of q.description ≡ 0) (same_Some _ p e) (rw add-zero whole)
stand_aligned d (s ∷ path) p at whole e =
    let l = leads d s path p e in
    let outer = step_aligned d s l.first at whole l.first_is in
    let inner = stand_aligned l.first.description path l.rest (at + l.first.offset) outer l.rest_is in
    subst (λ (q : PlacedPart). (at + q.offset) % alignment_of q.description ≡ 0) l.whole (rw add_assoc at inner)

-- parts of parts that are apart are apart
inner_apart : (a b p q : PlacedPart) (m n : ℕ) → Apart a b → p.offset ≡ a.offset + m → m + size_of p.description ≤ size_of a.description → q.offset ≡ b.offset + n → n + size_of q.description ≤ size_of b.description → Apart p q
inner_apart a b p q m n (inl before) p_at p_in q_at q_in = inl (omega arith)
inner_apart a b p q m n (inr after) p_at p_in q_at q_in = inr (omega arith)

moved_apart : (n : ℕ) (a b : PlacedPart) → Apart a b → Apart (moved n a) (moved n b)
moved_apart n a b (inl before) = inl (omega arith)
moved_apart n a b (inr after) = inr (omega arith)

pub do_not_meet : PartsDoNotMeet
do_not_meet d [] path others s t p q other e f =
    let l = leads d s path p e in
    let m = leads d t others q f in
    let apart = steps_are_apart d s t l.first m.first other l.first_is m.first_is in
    subst (λ r. Apart p r) m.whole (subst (λ r. Apart r (moved m.first.offset m.rest)) l.whole
    (inner_apart l.first m.first (moved l.first.offset l.rest) (moved m.first.offset m.rest) l.rest.offset m.rest.offset apart refl
    (lie_within l.first.description path l.rest l.rest_is) refl (lie_within m.first.description others m.rest m.rest_is)))
do_not_meet d (c ∷ shared) path others s t p q other e f =
    let l = leads d c (shared ++ s ∷ path) p e in
    let m = leads d c (shared ++ t ∷ others) q f in
    let same : m.first ≡ l.first = same_Some _ _ (sym m.first_is ∙ l.first_is) in
    let there : place_of l.first.description (shared ++ t ∷ others) ≡ Some m.rest = ap (λ (a : PlacedPart). place_of a.description (shared ++ t ∷ others)) (sym same) ∙ m.rest_is in
    let inner = do_not_meet l.first.description shared path others s t l.rest m.rest other l.rest_is there in
    let q_is : moved l.first.offset m.rest ≡ q = ap (λ (a : PlacedPart). moved a.offset m.rest) (sym same) ∙ m.whole in
    subst (λ r. Apart p r) q_is (subst (λ r. Apart r (moved l.first.offset m.rest)) l.whole (moved_apart l.first.offset l.rest m.rest inner))

-- ---- areas and bounds

rounded_twice : (n : ℕ) → next_multiple_of n 8 ≡ next_multiple_of (next_multiple_of n 8) 8
rounded_twice n = omega arith

pub areas_are_rounded : AreasAreRounded
areas_are_rounded n = ap Area (rounded_twice n)

pub at_most : (l x : ℤ) → int_le l x ≡ true → l ≤ℤ x
at_most l x e = omega (arith, ints)

test_passes : (l x : ℤ) → l ≤ℤ x → int_le l x ≡ true
test_passes l x h = grind (arith, ints)

within_from_index : (bs : List Bounds) (xs : List ℤ) (k : ℕ) → index_of bs xs ≡ Some k → WithinBounds bs xs
within_from_index [] [] k e = tt
within_from_index [] (x ∷ xs) k e = absurd (none-some k e)
within_from_index (b ∷ bs) [] k e = absurd (none-some k e)
within_from_index (b ∷ bs) (x ∷ xs) k e =
    let t = turns b bs x xs k e in
    let m = met b x t.distance t.distance_is in
    (at_most b.low x m.0, at_most x b.high m.1, within_from_index bs xs t.after t.after_is)

pub index_from_within : (bs : List Bounds) (xs : List ℤ) → WithinBounds bs xs → (k : ℕ) × (index_of bs xs ≡ Some k)
index_from_within [] [] h = (0, refl)
index_from_within [] (x ∷ xs) h = absurd h
index_from_within (b ∷ bs) [] h = absurd h
index_from_within (b ∷ bs) (x ∷ xs) h =
    let after = index_from_within bs xs h.2 in
    let low = test_passes b.low x h.0 in
    let high = test_passes x b.high h.1 in
    (unsigned_abs (x -ℤ b.low) * count_of bs + after.0, rw (low, high, after.1))

found_within : (bs : List Bounds) (xs : List ℤ) (o : Option ℕ) → index_of bs xs ≡ o → IsSome o → WithinBounds bs xs
found_within bs xs None is h = cc
found_within bs xs (Some k) is h = within_from_index bs xs k is

pub elements_are_within_bounds : ElementsAreWithinBounds
elements_are_within_bounds bs xs = (
  found_within bs xs (index_of bs xs) refl,
  λ h. let k = index_from_within bs xs h in subst IsSome (sym k.1) refl,
)

distance_grows : (l x y : ℤ) → int_le l x ≡ true → x <ℤ y → unsigned_abs (x -ℤ l) < unsigned_abs (y -ℤ l)
distance_grows l x y p q = omega (arith, ints)

earlier : (d e c j k : ℕ) → d < e → j < c → d * c + j < e * c + k
earlier d e c j k less below =
    let one_more : d + 1 ≤ e = omega arith in
    omega (arith, mul-le-mul_right c one_more)

pub elements_are_in_order : ElementsAreInRowMajorOrder
elements_are_in_order [] [] xs ys x y k l less e f = absurd (none-some k e)
elements_are_in_order [] (z ∷ shared) xs ys x y k l less e f = absurd (none-some k e)
elements_are_in_order (b ∷ bs) [] xs ys x y k l less e f =
    let t = turns b bs x xs k e in
    let u = turns b bs y ys l f in
    let m = met b x t.distance t.distance_is in
    let n = met b y u.distance u.distance_is in
    let grows = distance_grows b.low x y m.0 less in
    omega (arith, earlier t.distance u.distance (count_of bs) t.after u.after (omega (arith, grows, m.2, n.2)) (index_below bs xs t.after t.after_is), t.whole, u.whole)
elements_are_in_order (b ∷ bs) (z ∷ shared) xs ys x y k l less e f =
    let t = turns b bs z (shared ++ x ∷ xs) k e in
    let u = turns b bs z (shared ++ y ∷ ys) l f in
    let inner = elements_are_in_order bs shared xs ys x y t.after u.after less t.after_is u.after_is in
    let same : t.distance ≡ u.distance = same_Some _ _ (sym t.distance_is ∙ u.distance_is) in
    let rows : t.distance * count_of bs ≡ u.distance * count_of bs = ap (λ n. n * count_of bs) same in
    omega (arith, inner, rows, t.whole, u.whole)
