-- Lists with numbers.
use Rattle.std.specs.Prelude.{ℕ, ◌+◌, List, [], ◌∷◌}

-- what each item gives with its number, the first of which has this one
abbrev pub each_from : {A B : Type 0} → (ℕ → B → A) → (number : ℕ) → List B → List A
each_from f number [] = []
each_from f number (x ∷ xs) = f number x ∷ each_from f (number + 1) xs
