-- Names of two lengths are not equal.
use Rattle.std.proofs.Common.{◌≡◌, ◌≢◌, Bool, true, false, length, ap, refl}
use Rattle.std.specs.Prelude.{MatchBool}
use Rattle.std.specs.Cmp.Lexicographic.{told_text}
use Rattle.pli_base.specs.Name.{Name}
use Rattle.pli_base.specs.Words.{same_name}

-- what has told whether names are equal says that these are not
differ : (n m : Name) (r : Bool) → MatchBool r (n ≡ m) (n ≢ m) → n ≢ m → false ≡ r
differ n m true e other = absurd (other e)
differ n m false e other = refl

pub lengths_differ : (n m : Name) → length n ≢ length m → false ≡ same_name n m
lengths_differ n m other =
    differ n m (same_name n m) (told_text n m (same_name n m) refl) (λ e. other (ap length e))
