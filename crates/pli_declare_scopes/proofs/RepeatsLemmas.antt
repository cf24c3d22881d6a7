-- An item that repeats another is written as it is.
use Rattle.std.proofs.Common.{◌≡◌, ℕ, true, nat_eq, Option, None, Some, refl, sym, ap, arith}
use Rattle.std.specs.Option.{option_eq}
use Rattle.std.proofs.lemmas.Bool.Decides.{nat_tests}
use Rattle.std.specs.Cmp.Lexicographic.{same_text}
use Rattle.pli_base.specs.Words.{same_name}
use Rattle.pli_declare_scopes.specs.declared.repeat.Written.{Written}
use Rattle.pli_declare_scopes.specs.Repeats.{repeats}
use Rattle.pli_declare_scopes.proofs.IndexKept.{both_true}

pub same_owners : (a b : Option ℕ) → option_eq nat_eq a b ≡ true → a ≡ b
same_owners None None h = refl
same_owners None (Some m) h = cc
same_owners (Some n) None h = cc
same_owners (Some n) (Some m) h = ap (λ (k : ℕ). Some k) (grind (arith, nat_tests, h))

-- an item that repeats another is written as it is
pub repeats_same : (i j : Written) → repeats i j ≡ true → i ≡ j
repeats_same i j h =
    let t = both_true (same_name i.name j.name) (option_eq nat_eq i.owner j.owner) h in
    let p : i.name ≡ j.name = same_text i.name j.name (sym t.0) in
    let q : i.owner ≡ j.owner = same_owners i.owner j.owner t.1 in
    λ k. record { name = p k; owner = q k }
