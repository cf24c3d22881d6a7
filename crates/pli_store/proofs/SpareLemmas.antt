-- Bytes put in the place of as many.
use Rattle.std.proofs.Common.{◌≡◌, ℕ, List, ◌++◌, length, take, drop, ap, ◌∙◌, arith}
use Rattle.std.proofs.lemmas.List.{append-nil, drop_all, take_all}

pub front_is : (n : ℕ) (bytes own : List ℕ) → length bytes ≡ n → length own ≡ length bytes → take n bytes ++ drop n own ≡ bytes
front_is n bytes own count same =
    ap (λ xs. xs ++ drop n own) (take_all n bytes (omega (arith, count)))
    ∙ ap (λ xs. bytes ++ xs) (drop_all n own (omega (arith, count, same)))
    ∙ append-nil bytes
