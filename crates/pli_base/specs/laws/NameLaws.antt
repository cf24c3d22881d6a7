-- Laws of names as lists of characters: their tests tell which are one.
use Rattle.std.specs.Prelude.{◌≡◌, ℕ, true, List, nat_eq}
use Rattle.std.proofs.Common.{sym, subst}
use Rattle.std.specs.Cmp.Lexicographic.{pointwise, slice_cmp, same_text, nat_list_eq_equiv}
use Rattle.std.specs.Ordering.{nat_cmp}
use Rattle.std.specs.declared.cmp.Ordering.TheVariants.{Equal}
use Rattle.std.proofs.lemmas.Map.Lookups.{exact_bytes}

-- a name equals itself
pub pointwise-refl : (a : List ℕ) → pointwise nat_eq a a ≡ true
pointwise-refl a = nat_list_eq_equiv.refl a

-- names that the test finds equal are one
pub equal_from_pointwise : (a b : List ℕ) → pointwise nat_eq a b ≡ true → a ≡ b
equal_from_pointwise a b h = same_text a b (sym h)

pub pointwise-from_equal : (a b : List ℕ) → a ≡ b → pointwise nat_eq a b ≡ true
pointwise-from_equal a b e = subst (λ x. pointwise nat_eq a x ≡ true) e (pointwise-refl a)

-- names of which neither comes before the other are one
pub equal_from_cmp : (a b : List ℕ) → slice_cmp nat_cmp a b ≡ Equal → a ≡ b
equal_from_cmp a b h = exact_bytes a b h
