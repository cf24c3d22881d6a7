-- The bytes that lie between elements.
use Rattle.std.proofs.Common.{◌≡◌, ℕ, zero, suc, ◌*◌, ◌/◌, ◌<◌, List, [], ◌∷◌, ◌++◌, map, refl, ap, arith}
use Rattle.std.proofs.Math.Nat.{mul-div_cancel_left}

-- the bytes of an array over a dimension's extent: those from one of its subscripts to the next
pub over_extent : (extent others stride left : ℕ) → 0 < extent → left ≡ extent * others * stride
    → left / extent ≡ others * stride
over_extent extent others stride left h e =
    let same : left ≡ extent * (others * stride) = omega (arith, e) in
    rw same (mul-div_cancel_left (others * stride) h)

-- where a product is more than nothing, both factors are
pub both_positive : (extent others : ℕ) → 0 < extent * others → (0 < extent) × (0 < others)
both_positive zero others h = absurd (omega arith)
both_positive (suc n) zero h = absurd (omega arith)
both_positive (suc n) (suc m) h = (omega arith, omega arith)

-- one more in front of others
pub one_more : {A B : Type 0} (f : A → B) (xs : List A) (x : A) (others : List B)
    → map f (xs ++ x ∷ []) ++ others ≡ map f xs ++ (f x ∷ others)
one_more f [] x others = refl
one_more f (y ∷ xs) x others = ap (λ zs. f y ∷ zs) (one_more f xs x others)
