-- What is made of each of the numbers from 0 on.
use Rattle.std.proofs.Common.{◌≡◌, ℕ, zero, suc, ◌+◌, ◌<◌, List, [], ◌∷◌, ◌++◌, length, get_or, map, refl, sym, ap, ◌∙◌, arith}
use Rattle.std.proofs.lemmas.List.{map-append}
use Rattle.pli_declare.specs.Tables.{numbers_from}

numbers_more : (first count : ℕ) → numbers_from first (suc count) ≡ numbers_from first count ++ (first + count) ∷ []
numbers_more first zero = ap (λ n. n ∷ []) (omega arith)
numbers_more first (suc count) =
    ap (λ ns. first ∷ ns) (numbers_more (first + 1) count)
    ∙ ap (λ n. first ∷ (numbers_from (first + 1) count ++ n ∷ [])) (omega arith)

-- one number more
pub mapped_more : {X : Type 0} (f : ℕ → X) (xs : List X) (i : ℕ) (x : X) → xs ≡ map f (numbers_from 0 i) → x ≡ f i
    → xs ++ x ∷ [] ≡ map f (numbers_from 0 (i + 1))
mapped_more {X} f xs i x before here =
    let next : numbers_from 0 (i + 1) ≡ numbers_from 0 i ++ i ∷ [] = (let unary : i + 1 ≡ suc i = omega arith in ap (numbers_from 0) unary) ∙ numbers_more 0 i ∙ (let plain : 0 + i ≡ i = omega arith in ap (λ (n : ℕ). numbers_from 0 i ++ n ∷ []) plain) in
    ap (λ (ys : List X). ys ++ x ∷ []) before
    ∙ ap (λ (y : X). map f (numbers_from 0 i) ++ y ∷ []) here
    ∙ sym (map-append f (numbers_from 0 i) (i ∷ []))
    ∙ ap (map f) (sym next)

at_from : {X : Type 0} (f : ℕ → X) (first count k : ℕ) (d : X) → k < count → get_or (map f (numbers_from first count)) k d ≡ f (first + k)
at_from f first zero k d lt = absurd (omega arith)
at_from f first (suc count) zero d lt = ap f (omega arith)
at_from f first (suc count) (suc k) d lt = at_from f (first + 1) count k d (omega arith) ∙ ap f (omega arith)

pub mapped_at : {X : Type 0} (f : ℕ → X) (count k : ℕ) (d : X) → k < count → get_or (map f (numbers_from 0 count)) k d ≡ f k
mapped_at f count k d lt = let plain : 0 + k ≡ k = omega arith in at_from f 0 count k d lt ∙ ap f plain

length_from : {X : Type 0} (f : ℕ → X) (first count : ℕ) → length (map f (numbers_from first count)) ≡ count
length_from f first zero = refl
length_from f first (suc count) = ap suc (length_from f (first + 1) count)

pub mapped_length : {X : Type 0} (f : ℕ → X) (count : ℕ) → length (map f (numbers_from 0 count)) ≡ count
mapped_length f count = length_from f 0 count
