-- A list in which an item is put back is the same.
use Rattle.std.proofs.Common.{◌≡◌, ℕ, zero, suc, ◌<◌, List, [], ◌∷◌, length, get_or, set, ap, ◌∙◌, arith}

pub put_back : {A : Type 0} (xs : List A) (n : ℕ) (old new : A) → n < length xs → old ≡ get_or xs n old → new ≡ old → set xs n new ≡ xs
put_back [] n old new lt read same = absurd (omega arith)
put_back (x ∷ xs) zero old new lt read same = ap (λ y. y ∷ xs) (same ∙ read)
put_back (x ∷ xs) (suc n) old new lt read same = ap (λ ys. x ∷ ys) (put_back xs n old new (omega arith) read same)
