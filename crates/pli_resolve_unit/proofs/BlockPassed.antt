-- One of a list that is passed, and those that are left.
use Rattle.std.proofs.Common.{◌≡◌, ℕ, List, ◌∷◌}
use Rattle.std.proofs.Common.{◌+◌, ◌<◌, suc, drop, get_or, length, sym, ap, ◌∙◌, arith}
use Rattle.std.proofs.Math.Seq.{drop-cons}

pub drop_next : {A : Type 0} (xs : List A) (n : ℕ) (x : A) → n < length xs → x ≡ get_or xs n x → drop n xs ≡ x ∷ drop (n + 1) xs
drop_next xs n x within is =
    let e : suc n ≡ n + 1 = omega arith in
    drop-cons xs n x within ∙ ap (λ y. y ∷ drop (suc n) xs) (sym is) ∙ ap (λ k. x ∷ drop k xs) e
