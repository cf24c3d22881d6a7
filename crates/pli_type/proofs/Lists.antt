-- Tests of lists.
use Rattle.std.proofs.Common.{◌≡◌, Bool, List, [], ◌∷◌, map, ◌||◌, refl, ap}
use Rattle.std.specs.List.{list_any}

-- a test of what is made of things is a test of these
pub any_map : {A B : Type 0} (f : B → Bool) (g : A → B) (xs : List A)
    → list_any f (map g xs) ≡ list_any (λ x. f (g x)) xs
any_map f g [] = refl
any_map f g (x ∷ xs) = ap (λ b. f (g x) || b) (any_map f g xs)
