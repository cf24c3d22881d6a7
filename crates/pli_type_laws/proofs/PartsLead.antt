-- Subscripts within their bounds lead to parts: of an array to its elements, of a structure to its members.
use Rattle.std.specs.Prelude.{◌≡◌, ◌⊎◌, ℕ, zero, suc, ◌+◌, ◌*◌, ◌<◌, ◌≤◌, int_le, ℤ, ◌-ℤ◌, unsigned_abs, Bool, true, false, IsTrue, Some, List, [], ◌∷◌, ◌++◌, length, if◌then◌else◌, refl}
use Rattle.std.proofs.Common.{sym, ◌∙◌, ap, subst, arith, inl, inr, eq-zero-or-pos, mul-zero}
use Rattle.std.proofs.lemmas.Option.{same_Some, none-some}
use Rattle.std.proofs.Math.Nat.{mul-le-mul_right}
use Rattle.pli_map.specs.Description.{Description, Array, Structure, Members, NoMembers, MemberThen}
use Rattle.pli_map.specs.Parts.{PlacedPart, member_after}
use Rattle.pli_map.specs.Scalars.{scalars_in, first_scalar, scalar_after}
use Rattle.pli_map.specs.Sizes.{extent_of, count_of, size_of, stride_of}
use Rattle.pli_map.specs.declared.description.Bounds.{Bounds}
use Rattle.pli_map.proofs.Places.{distance_below}
use Rattle.pli_map.proofs.ScalarLawsHold.{whole_found}
use Rattle.pli_map.proofs.ScalarParts.{element_found, structure_finds, first_finds, others_find, joined}
use Rattle.pli_map.proofs.ScalarPlaces.{start_of}
use Rattle.pli_type_rules.specs.References.{strides_of, subscripts_at}
use Rattle.pli_type_tree.specs.TypedTree.{Stride, TypedExpression}
use Rattle.pli_type_tree.specs.WellTyped.{LeadTo}

-- numbers within the bounds, one for each stride, lead to a part of this description; there are such numbers
abbrev pub Leads : (whole : Description) → (offset : ℕ) → List Stride → (part : Description) → Type 0
Leads w o [] d = (k : ℕ) × (first_scalar w o d ≡ Some k)
Leads w o (s ∷ ss) d =
    IsTrue (int_le s.low s.high)
    × ((x : ℤ) → IsTrue (int_le s.low x) → IsTrue (int_le x s.high) → Leads w (o + unsigned_abs (x -ℤ s.low) * s.multiplier) ss d)

-- so do subscripts, one for each stride
pub leads_at : (w : Description) (o : ℕ) (ss : List Stride) (d : Description) (xs : List TypedExpression) → length ss ≡ length xs
    → Leads w o ss d → LeadTo w o (subscripts_at ss xs) d
leads_at w o [] d [] e h = h
leads_at w o [] d (x ∷ xs) e h = absurd (omega (arith, e))
leads_at w o (s ∷ ss) d [] e h = absurd (omega (arith, e))
leads_at w o (s ∷ ss) d (x ∷ xs) e h =
    (h.0, λ y low high. leads_at w (o + unsigned_abs (y -ℤ s.low) * s.multiplier) ss d xs (omega (arith, e)) (h.1 y low high))

-- ---- members

member_found : (at : ℕ) (ds : Members) (i : ℕ) (m : PlacedPart) → 0 < size_of m.description → member_after at ds i ≡ Some m
    → (k : ℕ) × (scalar_after at ds m.offset m.description ≡ Some k)
member_found at NoMembers i m sized e = absurd (none-some m e)
member_found at (MemberThen d ds) zero m sized e =
    let is = same_Some _ m e in
    let size : size_of d ≡ size_of m.description = ap (λ (q : PlacedPart). size_of q.description) is in
    let there : start_of at d + 0 ≡ start_of at d = omega arith in
    let Claim : PlacedPart → Type 0 = λ q. (k : ℕ) × (scalar_after at (MemberThen d ds) q.offset q.description ≡ Some k) in
    subst Claim is
    (0, sym (ap (λ n. scalar_after at (MemberThen d ds) n d) there) ∙ first_finds at d ds 0 d 0 (omega (arith, size, sized)) (whole_found d))
member_found at (MemberThen d ds) (suc i) m sized e =
    let f = member_found (start_of at d + size_of d) ds i m sized e in
    (scalars_in d + f.0, others_find at d ds m.offset m.description f.0 f.1)

swapped : (o a m : ℕ) → o + a + m ≡ o + m + a
swapped o a m = omega arith

pub leads_member : (w : Description) (o : ℕ) (ss : List Stride) (ds : Members) (i : ℕ) (m : PlacedPart) → 0 < size_of m.description
    → member_after 0 ds i ≡ Some m → Leads w o ss (Structure ds) → Leads w (o + m.offset) ss m.description
leads_member w o [] ds i m sized e h =
    let f = member_found 0 ds i m sized e in (
      h.0 + f.0,
      joined w o (Structure ds) h.0 m.offset m.description f.0 sized h.1 (structure_finds ds m.offset m.description f.0 f.1),
    )
leads_member w o (s ∷ ss) ds i m sized e h = (
  h.0,
  λ y low high.
      let passed : ℕ = unsigned_abs (y -ℤ s.low) * s.multiplier in
      subst (λ n. Leads w n ss m.description) (swapped o passed m.offset)
      (leads_member w (o + passed) ss ds i m sized e (h.1 y low high)),
)

-- ---- elements

within_distance : (b : Bounds) (x : ℤ) → IsTrue (int_le b.low x) → IsTrue (int_le x b.high) → unsigned_abs (x -ℤ b.low) < extent_of b
within_distance b x low high = distance_below b x (unsigned_abs (x -ℤ b.low)) (rw (low, high) refl)

-- one dimension further, the elements before are as many more
further : (o b d c s : ℕ) → o + (b + d * c) * s ≡ o + b * s + d * (c * s)
further o b d c s = omega arith

within_total : (b d e c t : ℕ) → d < e → b + e * c ≤ t → b + d * c + c ≤ t
within_total b d e c t below all =
    let one : d + 1 ≤ e = omega (arith, below) in
    let product = mul-le-mul_right c one in
    omega (arith, product, all)

-- where there are elements, each dimension has a subscript, and so have those after it
some_subscript : (b : Bounds) (bs : List Bounds) → 0 < count_of (b ∷ bs) → int_le b.low b.high ≡ true
some_subscript b bs some = by (int_le b.low b.high) refl some
  where
    by : (c : Bool) → int_le b.low b.high ≡ c → 0 < (if c then unsigned_abs (b.high -ℤ b.low) + 1 else 0) * count_of bs → int_le b.low b.high ≡ true
    by true e h = e
    by false e h = absurd (omega (arith, h))

some_after : (b : Bounds) (bs : List Bounds) → 0 < count_of (b ∷ bs) → 0 < count_of bs
some_after b bs some = by (eq-zero-or-pos (count_of bs))
  where
    by : (count_of bs ≡ 0) ⊎ (0 < count_of bs) → 0 < count_of bs
    by (inl e) = let none : count_of (b ∷ bs) ≡ 0 = ap (λ n. extent_of b * n) e ∙ mul-zero (extent_of b) in absurd (omega (arith, some, none))
    by (inr h) = h

-- where each of the elements stands, subscripts within the bounds lead to one
elements : (w : Description) (o total : ℕ) (e : Description) → ((i : ℕ) → i < total → (k : ℕ) × (first_scalar w (o + i * stride_of e) e ≡ Some k))
    → (bs : List Bounds) (before : ℕ) → 0 < count_of bs → before + count_of bs ≤ total → Leads w (o + before * stride_of e) (strides_of bs e) e
elements w o total e all [] before some h = all before (omega (arith, h))
elements w o total e all (b ∷ bs) before some h = (
  some_subscript b bs some,
  λ x low high.
      let d : ℕ = unsigned_abs (x -ℤ b.low) in
      subst (λ n. Leads w n (strides_of bs e) e) (further o before d (count_of bs) (stride_of e))
      (elements w o total e all bs (before + d * count_of bs) (some_after b bs some)
      (within_total before d (extent_of b) (count_of bs) total (within_distance b x low high) h)),
)

none_before : (o s : ℕ) → o + 0 * s ≡ o
none_before o s = omega arith

pub leads_element : (w : Description) (o : ℕ) (ss : List Stride) (bs : List Bounds) (e : Description) → 0 < size_of e → 0 < count_of bs
    → Leads w o ss (Array bs e) → Leads w o (ss ++ strides_of bs e) e
leads_element w o [] bs e sized some h =
    let there : (i : ℕ) → i < count_of bs → (k : ℕ) × (first_scalar w (o + i * stride_of e) e ≡ Some k) =
    λ i below.
    let at : i * stride_of e + 0 ≡ i * stride_of e = omega arith in
    let inner = element_found bs e 0 i e 0 (i * scalars_in e) below sized (whole_found e) (omega arith) in (
      h.0 + i * scalars_in e,
      joined w o (Array bs e) h.0 (i * stride_of e) e (i * scalars_in e) sized h.1
          (sym (ap (λ n. first_scalar (Array bs e) n e) at) ∙ inner),
    )
    in
    subst (λ n. Leads w n (strides_of bs e) e) (none_before o (stride_of e))
    (elements w o (count_of bs) e there bs 0 some (omega arith))
leads_element w o (s ∷ ss) bs e sized some h =
    (h.0, λ y low high. leads_element w (o + unsigned_abs (y -ℤ s.low) * s.multiplier) ss bs e sized some (h.1 y low high))
