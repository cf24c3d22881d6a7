-- The regions round a place, step by step.
use Rattle.std.proofs.Common.{◌≡◌, ◌<◌, ◌≤◌, ℕ, zero, suc, ◌+◌, nat_lt, Bool, true, false, List, [], ◌∷◌, ◌++◌, Option, Some, None, length, get_or, refl, ap, subst, ◌∙◌, sym, arith, if◌then◌else◌}
use Rattle.std.proofs.lemmas.List.{get_or_append_left, get_or_past, length-append}
use Rattle.std.proofs.lemmas.Bool.Decides.{nat_tests}
use Rattle.std.proofs.Math.Seq.{get_or-append_seam}
use Rattle.pli_declare_outline.specs.Outlines.{Region}
use Rattle.pli_declare_constructs.specs.Regions.{round, rounds_after, round_of, outside}

-- what was put stays
pub kept : (rounds : List (List ℕ)) (rs : List Region) (k : ℕ) → k < length rounds → get_or (rounds_after rounds rs) k [] ≡ get_or rounds k []
kept rounds [] k lt = refl
kept rounds (r ∷ rs) k lt =
    let x = length rounds ∷ round rounds r.outer in
    let longer : length (rounds ++ x ∷ []) ≡ length rounds + 1 = length-append rounds (x ∷ []) in
    kept (rounds ++ x ∷ []) rs k (omega (arith, longer)) ∙ get_or_append_left rounds (x ∷ []) [] k lt

-- the regions round the outer one, if it stands before
abbrev pub before : List (List ℕ) → (n : ℕ) → Option ℕ → List ℕ
before rounds n None = []
before rounds n (Some outer) = if nat_lt outer n then get_or rounds outer [] else []

test_cases : (rounds final : List (List ℕ)) (o : ℕ) → (o < length rounds → get_or final o [] ≡ get_or rounds o []) → (b : Bool) → nat_lt o (length rounds) ≡ b → get_or rounds o [] ≡ (if b then get_or final o [] else [])
test_cases rounds final o same true e = sym (same (grind (arith, nat_tests)))
test_cases rounds final o same false e = get_or_past rounds o [] (grind (arith, nat_tests))

rounds_kept : (rounds : List (List ℕ)) (rs : List Region) (outer : Option ℕ) → round rounds outer ≡ before (rounds_after rounds rs) (length rounds) outer
rounds_kept rounds rs None = refl
rounds_kept rounds rs (Some o) = test_cases rounds (rounds_after rounds rs) o (kept rounds rs o) (nat_lt o (length rounds)) refl

-- each region stands in front of those round its outer one
nth : (rounds : List (List ℕ)) (rs : List Region) (n m : ℕ) → m ≡ length rounds + n → n < length rs
    → get_or (rounds_after rounds rs) m [] ≡ m ∷ before (rounds_after rounds rs) m (get_or rs n outside).outer
nth rounds [] n m e lt = absurd (omega (arith, lt))
nth rounds (r ∷ rs) zero m e lt =
    let x = length rounds ∷ round rounds r.outer in
    let longer : length (rounds ++ x ∷ []) ≡ length rounds + 1 = length-append rounds (x ∷ []) in
    let here : length rounds ≡ m = omega (arith, e) in
    subst (λ (k : ℕ). get_or (rounds_after rounds (r ∷ rs)) k [] ≡ k ∷ before (rounds_after rounds (r ∷ rs)) k r.outer) here
    (kept (rounds ++ x ∷ []) rs (length rounds) (omega (arith, longer)) ∙ get_or-append_seam rounds x [] []
    ∙ ap (λ (ns : List ℕ). length rounds ∷ ns) (rounds_kept rounds (r ∷ rs) r.outer))
nth rounds (r ∷ rs) (suc n) m e lt =
    let x = length rounds ∷ round rounds r.outer in
    let longer : length (rounds ++ x ∷ []) ≡ length rounds + 1 = length-append rounds (x ∷ []) in
    nth (rounds ++ x ∷ []) rs n m (omega (arith, e, longer)) (omega (arith, lt))

pub round_step : (rs : List Region) (n : ℕ) → n < length rs → round_of rs n ≡ n ∷ before (rounds_after [] rs) n (get_or rs n outside).outer
round_step rs n lt = nth [] rs n n (omega arith) lt

-- there is nothing round what is no region
count : (rounds : List (List ℕ)) (rs : List Region) → length (rounds_after rounds rs) ≡ length rounds + length rs
count rounds [] = omega arith
count rounds (r ∷ rs) =
    let x = length rounds ∷ round rounds r.outer in
    let longer : length (rounds ++ x ∷ []) ≡ length rounds + 1 = length-append rounds (x ∷ []) in
    omega (arith, count (rounds ++ x ∷ []) rs, longer)

pub round_past : (rs : List Region) (n : ℕ) → length rs ≤ n → round_of rs n ≡ []
round_past rs n past = get_or_past (rounds_after [] rs) n [] (omega (arith, count [] rs, past))
