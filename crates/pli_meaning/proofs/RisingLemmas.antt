-- Tokens that rise wherever others do.
use Rattle.std.proofs.Common.{◌≡◌, ◌+◌, ℕ, List, [], ◌∷◌, ◌++◌, refl, ap, subst, sym, append_assoc, ◌∙◌, arith}
use Rattle.pli_base.specs.TreeTokens.{Rises, tokens_of_each}
use Rattle.pli_base.specs.laws.TreeTokenLaws.{rises_within, rises_on, rises_up}

-- where ys rise, so do xs, between the same bounds
abbrev pub Keeps : List ℕ → List ℕ → Type 0
Keeps xs ys = (low high : ℕ) → Rises low ys high → Rises low xs high

pub kept : (xs : List ℕ) → Keeps xs xs
kept xs low high h = h

pub none_kept : (ys : List ℕ) → Keeps [] ys
none_kept ys low high h = rises_up ys low high h

pub token_kept : (t : ℕ) (xs ys : List ℕ) → Keeps xs ys → Keeps (t ∷ xs) (t ∷ ys)
token_kept t xs ys k low high h = (h.0, k (t + 1) high h.1)

pub token_left : (t : ℕ) (xs ys : List ℕ) → Keeps xs ys → Keeps xs (t ∷ ys)
token_left t xs ys k low high h =
    rises_within xs (t + 1) low high high (omega (arith, h.0)) (omega arith) (k (t + 1) high h.1)

-- where two lists rise one after the other, there is a place between them
pub rises_apart : (xs ys : List ℕ) (low high : ℕ) → Rises low (xs ++ ys) high
    → (middle : ℕ) × Rises low xs middle × Rises middle ys high
rises_apart [] ys low high h = (low, omega arith, h)
rises_apart (x ∷ xs) ys low high h =
    let later = rises_apart xs ys (x + 1) high h.1 in
    (later.0, (h.0, later.1), later.2)

pub both_kept : (xs ys us vs : List ℕ) → Keeps xs ys → Keeps us vs → Keeps (xs ++ us) (ys ++ vs)
both_kept xs ys us vs k m low high h =
    let apart = rises_apart ys vs low high h in
    rises_on xs us low apart.0 apart.0 high (omega arith) (k low apart.0 apart.1) (m apart.0 high apart.2)

-- of what stands one after the other
pub each_apart : {A : Type 0} (tokens : A → List ℕ) (xs ys : List A)
    → tokens_of_each tokens (xs ++ ys) ≡ tokens_of_each tokens xs ++ tokens_of_each tokens ys
each_apart tokens [] ys = refl
each_apart tokens (x ∷ xs) ys =
    ap (λ ts. tokens x ++ ts) (each_apart tokens xs ys)
    ∙ sym (append_assoc (tokens x) (tokens_of_each tokens xs) (tokens_of_each tokens ys))

pub each_kept : {A : Type 0} (tokens : A → List ℕ) (xs ys : List A) (us vs : List ℕ)
    → Keeps (tokens_of_each tokens xs) us → Keeps (tokens_of_each tokens ys) vs
    → Keeps (tokens_of_each tokens (xs ++ ys)) (us ++ vs)
each_kept tokens xs ys us vs k m =
    subst (λ ts. Keeps ts (us ++ vs)) (sym (each_apart tokens xs ys))
    (both_kept (tokens_of_each tokens xs) us (tokens_of_each tokens ys) vs k m)
