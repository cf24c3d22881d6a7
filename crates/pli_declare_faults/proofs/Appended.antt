-- A loop that puts after a list what each element of another gives.
use Rattle.std.proofs.Common.{◌≡◌, ◌++◌, ◌∷◌, [], ◌+◌, ◌<◌, ◌≤◌, ℕ, List, drop, get_or, length, ap, sym, ◌∙◌, append_assoc, append-nil}
use Rattle.std.proofs.lemmas.List.{at_drop_all, at_drop_more}

-- what stands there now, with what is left, is the whole: one element on
pub one_appended : {X A : Type 0} (gives : List X → List A) (xs : List X) (i : ℕ) (now new all given : List A)
    → gives (drop i xs) ≡ given ++ gives (drop (i + 1) xs) → new ≡ now ++ given
    → now ++ gives (drop i xs) ≡ all → new ++ gives (drop (i + 1) xs) ≡ all
one_appended gives xs i now new all given step added so_far =
    ap (λ ys. ys ++ gives (drop (i + 1) xs)) added
    ∙ append_assoc now given (gives (drop (i + 1) xs))
    ∙ ap (λ ys. now ++ ys) (sym step)
    ∙ so_far

-- and at the end
pub all_appended : {X A : Type 0} (gives : List X → List A) (xs : List X) (i : ℕ) (now all : List A)
    → length xs ≤ i → gives [] ≡ [] → now ++ gives (drop i xs) ≡ all → now ≡ all
all_appended gives xs i now all past none so_far =
    sym (ap (λ ys. now ++ ys) (at_drop_all gives xs i past ∙ none) ∙ append-nil now) ∙ so_far

-- what is left gives what its first element gives, and what comes after that
pub element_gives : {X A : Type 0} (gives : List X → List A) (xs : List X) (i : ℕ) (x : X) → i < length xs → x ≡ get_or xs i x
    → gives (drop i xs) ≡ gives (x ∷ drop (i + 1) xs)
element_gives gives xs i x lt is =
    at_drop_more gives xs i x lt ∙ ap (λ y. gives (y ∷ drop (i + 1) xs)) (sym is)
