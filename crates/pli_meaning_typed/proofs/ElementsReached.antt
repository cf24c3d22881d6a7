-- Subscripts of an array's dimensions, each within its bounds, lead to its elements.
use Rattle.std.specs.Prelude.{◌≡◌, ◌⊎◌, ℕ, zero, suc, ◌+◌, ◌*◌, ◌/◌, ◌%◌, ◌<◌, ◌≤◌, int_le, ℤ, ◌-ℤ◌, unsigned_abs, IsTrue, Some, List, [], ◌∷◌, drop, slice_get, refl}
use Rattle.std.proofs.Common.{arith, sym, ap, ◌∙◌, subst, inl, inr, eq-zero-or-pos, mul-zero, div-le_self, div-add-mod', mul-le-mul_right}
use Rattle.std.proofs.lemmas.Nat.{div-mul-add}
use Rattle.pli_map.specs.Description.{Description, Array}
use Rattle.pli_map.specs.Scalars.{first_scalar}
use Rattle.pli_map.specs.Sizes.{extent_of, count_of, stride_of}
use Rattle.pli_map.specs.declared.description.Bounds.{Bounds}
use Rattle.pli_map.proofs.Places.{distance_below}
use Rattle.pli_map.proofs.ScalarLawsHold.{whole_found}
use Rattle.pli_meaning_typed.proofs.PartsWithin.{in_element}

-- each element stands where its number says
pub element_reached : (bs : List Bounds) (e : Description) (n : ℕ) → n < count_of bs → (k : ℕ) × (first_scalar (Array bs e) (n * stride_of e) e ≡ Some k)
element_reached bs e n below = by (eq-zero-or-pos (stride_of e))
  where
    at : ℕ
    at = n * stride_of e

    found : at / stride_of e < count_of bs → at % stride_of e ≡ 0 → (k : ℕ) × (first_scalar (Array bs e) at e ≡ Some k)
    found few none =
        in_element e 0 e 0 (whole_found e) bs e at 0 few (subst (λ o. first_scalar e o e ≡ Some 0) (sym none) (whole_found e))

    by : (stride_of e ≡ 0) ⊎ (0 < stride_of e) → (k : ℕ) × (first_scalar (Array bs e) at e ≡ Some k)
    by (inl none) =
        let first : at ≡ 0 = ap (λ s. n * s) none ∙ mul-zero n in
        let parts = div-add-mod' at (stride_of e) in
        let least : at / stride_of e ≤ at = div-le_self at (stride_of e) in
        found (omega (arith, least, first, below)) (omega (arith, parts, first))
    by (inr some) =
        let same : n * stride_of e + 0 ≡ at = omega arith in
        let quotient : at / stride_of e ≡ n = ap (λ o. o / stride_of e) (sym same) ∙ div-mul-add n (stride_of e) 0 some in
        let parts = div-add-mod' at (stride_of e) in
        let product : at / stride_of e * stride_of e ≡ at = ap (λ q. q * stride_of e) quotient in
        found (omega (arith, quotient, below)) (omega (arith, parts, product))

-- a subscript within its bounds is less far from the low one than there are subscripts
pub within_distance : (b : Bounds) (x : ℤ) → IsTrue (int_le b.low x) → IsTrue (int_le x b.high) → unsigned_abs (x -ℤ b.low) < extent_of b
within_distance b x low high = distance_below b x (unsigned_abs (x -ℤ b.low)) (rw (low, high) refl)

-- one dimension further, the elements before are as many more
pub further : (before d c s : ℕ) → (before + d * c) * s ≡ before * s + d * (c * s)
further before d c s = omega arith

pub within_total : (before d e c t : ℕ) → d < e → before + e * c ≤ t → before + d * c + c ≤ t
within_total before d e c t below all =
    let one : d + 1 ≤ e = omega (arith, below) in
    let product = mul-le-mul_right c one in
    omega (arith, product, all)

-- where no element is left, nothing is passed
pub none_left : (d c s : ℕ) → c ≡ 0 → d * (c * s) ≡ 0
none_left d c s e = ap (λ c. d * (c * s)) e ∙ omega arith

-- the bounds of a dimension, and those after it
pub front_of_drop : (bs : List Bounds) (i : ℕ) (b : Bounds) (rest : List Bounds) → drop i bs ≡ b ∷ rest → (slice_get bs i ≡ Some b) × (drop (suc i) bs ≡ rest)
front_of_drop [] zero b rest e = absurd (cc)
front_of_drop [] (suc i) b rest e = absurd (cc)
front_of_drop (x ∷ bs) zero b rest e = let first : x ≡ b = cc in let others : bs ≡ rest = cc in (ap Some first, others)
front_of_drop (x ∷ bs) (suc i) b rest e = front_of_drop bs i b rest e
