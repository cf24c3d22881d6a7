-- Lists of which no more than so many elements are wanted.
use Rattle.std.proofs.Common.{◌≡◌, ℕ, zero, suc, ◌+◌, ◌-◌, ◌≤◌, ◌<◌, List, [], ◌∷◌, ◌++◌, length, take, refl, ap, ◌∙◌, arith}
use Rattle.std.specs.List.{flat_map}
use Rattle.std.proofs.lemmas.List.{append_assoc, append-nil, take_all, take_at}
use Rattle.pli_type_rules.specs.InitialScalars.{counted_from}

-- what is left out in front is not wanted
pub take_first : {A : Type 0} (n : ℕ) (xs ys : List A) → take n (take n xs ++ ys) ≡ take n (xs ++ ys)
take_first zero xs ys = refl
take_first (suc n) [] ys = refl
take_first (suc n) (x ∷ xs) ys = ap (λ zs. x ∷ zs) (take_first n xs ys)

-- one step more towards what is wanted
pub one_more : {A : Type 0} (wanted : ℕ) (old made here more whole : List A) → made ≡ take wanted (old ++ here)
    → take wanted (old ++ (here ++ more)) ≡ whole → take wanted (made ++ more) ≡ whole
one_more wanted old made here more whole is e =
    ap (λ xs. take wanted (xs ++ more)) is ∙ take_first wanted (old ++ here) more ∙ ap (take wanted) (append_assoc old here more) ∙ e

-- the numbers from here on, while there are some left
pub step_left : {A : Type 0} (f : ℕ → List A) (at distance count passed : ℕ) → passed < count
    → flat_map f (counted_from at distance (count - passed)) ≡ f at ++ flat_map f (counted_from (at + distance) distance (count - (passed + 1)))
step_left f at distance count passed h =
    let e : count - passed ≡ suc (count - (passed + 1)) = omega arith in
    ap (λ n. flat_map f (counted_from at distance n)) e

pub none_left : {A : Type 0} (f : ℕ → List A) (at distance count passed : ℕ) → count ≤ passed
    → flat_map f (counted_from at distance (count - passed)) ≡ []
none_left f at distance count passed h =
    let e : count - passed ≡ 0 = omega arith in
    ap (λ n. flat_map f (counted_from at distance n)) e

-- all that are wanted are there
pub all_made : {A : Type 0} (wanted : ℕ) (made more : List A) → length made ≡ wanted → take wanted (made ++ more) ≡ made
all_made wanted made more h = take_at made more wanted h

-- nothing is left to be made
pub none_more : {A : Type 0} (wanted : ℕ) (made more : List A) → length made ≤ wanted → more ≡ [] → take wanted (made ++ more) ≡ made
none_more wanted made more h none =
    ap (λ xs. take wanted (made ++ xs)) none ∙ ap (take wanted) (append-nil made) ∙ take_all wanted made h
