-- Lists with one more.
use Rattle.std.proofs.Common.{◌≡◌, ℕ, zero, suc, Some, List, [], ◌∷◌, ◌++◌, length, slice_get, subst}
use Rattle.std.proofs.lemmas.Option.{none-some, same_Some}

-- what holds of each element holds with one more
pub each_more : {A : Type 0} (P : ℕ → A → Type 0) (xs : List A) (x : A) → ((k : ℕ) (y : A) → slice_get xs k ≡ Some y → P k y)
    → P (length xs) x → (k : ℕ) (y : A) → slice_get (xs ++ x ∷ []) k ≡ Some y → P k y
each_more P [] x each one zero y is = subst (P 0) (same_Some x y is) one
each_more P [] x each one (suc k) y is = absurd (none-some y is)
each_more P (z ∷ xs) x each one zero y is = each zero y is
each_more P (z ∷ xs) x each one (suc k) y is =
    each_more (λ k. P (suc k)) xs x (λ k y e. each (suc k) y e) one k y is
