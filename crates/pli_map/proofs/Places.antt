-- Where the parts that one step leads to stand, against the whole and one another.
use Rattle.std.proofs.Common.{◌≡◌, ℕ, zero, suc, ◌+◌, ◌*◌, ◌<◌, ◌≤◌, ◌&&◌, Bool, true, false, int_le, ℤ, ◌-ℤ◌, unsigned_abs, List, [], ◌∷◌, Option, Some, None, option_map, option_and_then, refl, ap, sym, ◌∙◌, arith, ◌⊎◌, inl, inr}
use Rattle.std.specs.Int.{next_multiple_of}
use Rattle.std.proofs.lemmas.Int.{ints}
use Rattle.std.proofs.lemmas.Nat.{mul-add-lt, same_from_place}
use Rattle.std.proofs.lemmas.Option.{cond_some, same_Some, none-some}
use Rattle.std.proofs.Math.Nat.{mul-le-mul_right}
use Rattle.pli_map.specs.declared.description.Bounds.{Bounds}
use Rattle.pli_map.specs.Description.{Description, Array, Structure, Members, NoMembers, MemberThen}
use Rattle.pli_map.specs.Sizes.{extent_of, count_of, alignment_of, size_of, end_after, stride_of}
use Rattle.pli_map.specs.Parts.{PathStep, Member, Element, PlacedPart, distance_of, index_of, member_after, part_at}
use Rattle.pli_map.proofs.Members.{later}

-- ---- subscripts

both : (a b : Bool) → a && b ≡ true → (a ≡ true) × (b ≡ true)
both true b e = (refl, e)
both false b e = cc

through : (l x h : ℤ) → int_le l x ≡ true → int_le x h ≡ true → int_le l h ≡ true
through l x h p q = grind (arith, ints)

nearer : (l x h : ℤ) → int_le l x ≡ true → int_le x h ≡ true → unsigned_abs (x -ℤ l) < unsigned_abs (h -ℤ l) + 1
nearer l x h p q = omega (arith, ints)

same_distance : (l x y : ℤ) → int_le l x ≡ true → int_le l y ≡ true → unsigned_abs (x -ℤ l) ≡ unsigned_abs (y -ℤ l) → x ≡ y
same_distance l x y p q e = omega (arith, ints)

-- what a distance says: the subscript is within its bounds
pub met : (b : Bounds) (x : ℤ) (d : ℕ) → distance_of b x ≡ Some d → (int_le b.low x ≡ true) × (int_le x b.high ≡ true) × (unsigned_abs (x -ℤ b.low) ≡ d)
met b x d e =
    let of = cond_some _ _ _ e in
    let within = both (int_le b.low x) (int_le x b.high) of.0 in
    (within.0, within.1, of.1)

-- a subscript is less far from the lower bound than there are subscripts
pub distance_below : (b : Bounds) (x : ℤ) (d : ℕ) → distance_of b x ≡ Some d → d < extent_of b
distance_below b x d e =
    let m = met b x d e in
    let near = nearer b.low x b.high m.0 m.1 in
    rw (through b.low x b.high m.0 m.1) (omega (arith, near, m.2))

distance_apart : (b : Bounds) (x y : ℤ) (d : ℕ) → distance_of b x ≡ Some d → distance_of b y ≡ Some d → x ≡ y
distance_apart b x y d e f =
    let m = met b x d e in
    let n = met b y d f in
    same_distance b.low x y m.0 n.0 (m.2 ∙ sym n.2)

-- how an index is made: of the distance and of the index after it
pub record Turns (b : Bounds) (bs : List Bounds) (x : ℤ) (xs : List ℤ) (k : ℕ) : Type 0 where
  pub distance : ℕ
  pub after : ℕ
  pub distance_is : distance_of b x ≡ Some distance
  pub after_is : index_of bs xs ≡ Some after
  pub whole : distance * count_of bs + after ≡ k

turns_of : (b : Bounds) (bs : List Bounds) (x : ℤ) (xs : List ℤ) (k : ℕ) (d j : Option ℕ) → distance_of b x ≡ d → index_of bs xs ≡ j
    → option_and_then (λ n. option_map (λ m. n * count_of bs + m) j) d ≡ Some k → Turns b bs x xs k
turns_of b bs x xs k None j d_is j_is e = absurd (none-some k e)
turns_of b bs x xs k (Some d) None d_is j_is e = absurd (none-some k e)
turns_of b bs x xs k (Some d) (Some j) d_is j_is e =
    record { distance = d; after = j; distance_is = d_is; after_is = j_is; whole = same_Some _ _ e }

pub turns : (b : Bounds) (bs : List Bounds) (x : ℤ) (xs : List ℤ) (k : ℕ) → index_of (b ∷ bs) (x ∷ xs) ≡ Some k → Turns b bs x xs k
turns b bs x xs k e = turns_of b bs x xs k (distance_of b x) (index_of bs xs) refl refl e

-- an element is one of as many as there are
pub index_below : (bs : List Bounds) (xs : List ℤ) (k : ℕ) → index_of bs xs ≡ Some k → k < count_of bs
index_below [] [] k e = omega (arith, same_Some _ _ e)
index_below [] (x ∷ xs) k e = absurd (none-some k e)
index_below (b ∷ bs) [] k e = absurd (none-some k e)
index_below (b ∷ bs) (x ∷ xs) k e =
    let t = turns b bs x xs k e in
    let near = distance_below b x t.distance t.distance_is in
    let after = index_below bs xs t.after t.after_is in
    omega (arith, mul-add-lt t.distance (count_of bs) t.after (extent_of b) near after, t.whole)

-- elements of one index have the same subscripts
pub index_apart : (bs : List Bounds) (xs ys : List ℤ) (k : ℕ) → index_of bs xs ≡ Some k → index_of bs ys ≡ Some k → xs ≡ ys
index_apart [] [] [] k e f = refl
index_apart [] [] (y ∷ ys) k e f = absurd (none-some k f)
index_apart [] (x ∷ xs) ys k e f = absurd (none-some k e)
index_apart (b ∷ bs) [] ys k e f = absurd (none-some k e)
index_apart (b ∷ bs) (x ∷ xs) [] k e f = absurd (none-some k f)
index_apart (b ∷ bs) (x ∷ xs) (y ∷ ys) k e f =
    let t = turns b bs x xs k e in
    let u = turns b bs y ys k f in
    let same = same_from_place t.distance t.after u.distance u.after (count_of bs) (index_below bs xs t.after t.after_is) (index_below bs ys u.after u.after_is) (t.whole ∙ sym u.whole) in
    let first : x ≡ y = distance_apart b x y t.distance t.distance_is (u.distance_is ∙ ap Some (sym same.0)) in
    let others : xs ≡ ys = index_apart bs xs ys t.after t.after_is (u.after_is ∙ ap Some (sym same.1)) in
    cc

-- ---- members

-- a member stands between the beginning and the end
pub member_inside : (at : ℕ) (ds : Members) (i : ℕ) (p : PlacedPart) → member_after at ds i ≡ Some p → (at ≤ p.offset) × (p.offset + size_of p.description ≤ end_after at ds)
member_inside at NoMembers i p e = absurd (none-some p e)
member_inside at (MemberThen d ds) zero p e =
    let is = same_Some _ p e in
    let offset : next_multiple_of at (alignment_of d) ≡ p.offset = ap (λ q. q.offset) is in
    let size : size_of d ≡ size_of p.description = ap (λ q. size_of q.description) is in
    let end = later (next_multiple_of at (alignment_of d) + size_of d) ds in
    (omega (arith, offset), omega (arith, offset, size, end))
member_inside at (MemberThen d ds) (suc i) p e =
    let inner = member_inside (next_multiple_of at (alignment_of d) + size_of d) ds i p e in
    (omega (arith, inner.0), inner.1)

-- of two members the first ends before the other begins
pub members_apart : (at : ℕ) (ds : Members) (i j : ℕ) (p q : PlacedPart) → i < j → member_after at ds i ≡ Some p → member_after at ds j ≡ Some q → p.offset + size_of p.description ≤ q.offset
members_apart at NoMembers i j p q before e f = absurd (none-some p e)
members_apart at (MemberThen d ds) i zero p q before e f = absurd (omega arith)
members_apart at (MemberThen d ds) zero (suc j) p q before e f =
    let is = same_Some _ p e in
    let offset : next_multiple_of at (alignment_of d) ≡ p.offset = ap (λ r. r.offset) is in
    let size : size_of d ≡ size_of p.description = ap (λ r. size_of r.description) is in
    let inner = member_inside (next_multiple_of at (alignment_of d) + size_of d) ds j q f in
    omega (arith, offset, size, inner.0)
members_apart at (MemberThen d ds) (suc i) (suc j) p q before e f =
    members_apart (next_multiple_of at (alignment_of d) + size_of d) ds i j p q (omega arith) e f

-- ---- one step

pub record MemberStep (d : Description) (s : PathStep) (p : PlacedPart) : Type 0 where
  pub members : Members
  pub number : ℕ
  pub whole_is : d ≡ Structure members
  pub step_is : s ≡ Member number
  pub part_is : member_after 0 members number ≡ Some p

abbrev pub element_part : ℕ → Description → PlacedPart
element_part k e = record { offset = k * stride_of e; description = e }

pub record ElementStep (d : Description) (s : PathStep) (p : PlacedPart) : Type 0 where
  pub bounds : List Bounds
  pub element : Description
  pub subscripts : List ℤ
  pub index : ℕ
  pub whole_is : d ≡ Array bounds element
  pub step_is : s ≡ Element subscripts
  pub index_is : index_of bounds subscripts ≡ Some index
  pub part_is : element_part index element ≡ p

element_step : (bs : List Bounds) (e : Description) (xs : List ℤ) (p : PlacedPart) (k : Option ℕ) → index_of bs xs ≡ k → option_map (λ n. element_part n e) k ≡ Some p → ElementStep (Array bs e) (Element xs) p
element_step bs e xs p None k_is h = absurd (none-some p h)
element_step bs e xs p (Some k) k_is h =
    record { bounds = bs; element = e; subscripts = xs; index = k; whole_is = refl; step_is = refl; index_is = k_is; part_is = same_Some _ p h }

-- a step leads to a member of a structure or to an element of an array
pub step_is : (d : Description) (s : PathStep) (p : PlacedPart) → part_at d s ≡ Some p → MemberStep d s p ⊎ ElementStep d s p
step_is (Structure members) (Member i) p e = inl (record { members = members; number = i; whole_is = refl; step_is = refl; part_is = e })
step_is (Array bounds element) (Element xs) p e = inr (element_step bounds element xs p (index_of bounds xs) refl e)
step_is d s p e = absurd (none-some p e)

-- an element ends within its array
pub element_inside : (k count stride size : ℕ) → k < count → size ≤ stride → k * stride + size ≤ count * stride
element_inside k count stride size below fits =
    let one_more : k + 1 ≤ count = omega arith in
    omega (arith, mul-le-mul_right stride one_more)

pub fits_stride : (d : Description) → size_of d ≤ stride_of d
fits_stride d = omega arith

-- a part lies within the whole
pub step_inside : (d : Description) (s : PathStep) (p : PlacedPart) → part_at d s ≡ Some p → p.offset + size_of p.description ≤ size_of d
step_inside d s p e = elim (step_is d s p e) [
  | inl m ↦ rw m.whole_is (member_inside 0 m.members m.number p m.part_is).1
  | inr m ↦ rw (m.whole_is, ← m.part_is) (element_inside m.index (count_of m.bounds) (stride_of m.element) (size_of m.element) (index_below m.bounds m.subscripts m.index m.index_is) (fits_stride m.element))
]
