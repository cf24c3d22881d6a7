-- What is found under keys, in lists that are joined.
use Rattle.std.proofs.Common.{◌≡◌, ℕ, nat_eq, Option, Some, List, [], ◌∷◌, ◌++◌, refl, if◌then◌else◌}
use Rattle.pli_declare.specs.Symbols.{found_after}

-- after some pairs others
pub found_then : {A : Type 0} (found : Option A) (xs ys : List (ℕ × A)) (key : ℕ)
    → found_after found (xs ++ ys) key ≡ found_after (found_after found xs key) ys key
found_then found [] ys key = refl
found_then found (x ∷ xs) ys key = found_then (if nat_eq x.0 key then Some x.1 else found) xs ys key
