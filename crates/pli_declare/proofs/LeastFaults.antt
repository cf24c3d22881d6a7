-- The least of faults does not depend on how they are grouped.
use Rattle.std.proofs.Common.{◌≡◌, ℕ, ◌<◌, ◌≤◌, refl, ap, sym, ◌∙◌, inl, inr, arith, Option, Some, None}
use Rattle.std.specs.Cmp.{nat_cmp_is}
use Rattle.std.specs.Ordering.{nat_cmp}
use Rattle.std.specs.declared.cmp.Ordering.TheVariants.{Less, Equal, Greater}
use Rattle.std.proofs.lemmas.Bool.{cases_lt}
use Rattle.pli_base.specs.Codes.{code_place}
use Rattle.pli_base.specs.declared.code.Code.{Code}
use Rattle.pli_declare.specs.Faults.{first_in_order, lesser}

abbrev least : Code → Code → Code
least c d = first_in_order (nat_cmp (code_place c) (code_place d)) c d

by_place : (x y : ℕ) (c d : Code) → x ≤ y → first_in_order (nat_cmp x y) c d ≡ c
by_place x y c d h =
    elim (cases_lt x y) [
      | inl below ↦ ap (λ o. first_in_order o c d) (sym (nat_cmp_is x y Less below))
      | inr above ↦ ap (λ o. first_in_order o c d) (sym (nat_cmp_is x y Equal (omega arith)))
    ]

keeps : (c d : Code) → code_place c ≤ code_place d → least c d ≡ c
keeps c d h = by_place (code_place c) (code_place d) c d h

swaps : (c d : Code) → code_place d < code_place c → least c d ≡ d
swaps c d h = ap (λ o. first_in_order o c d) (sym (nat_cmp_is (code_place c) (code_place d) Greater h))

first_least : (c d e : Code) → code_place c ≤ code_place d → least (least c d) e ≡ least c (least d e)
first_least c d e h =
    elim (cases_lt (code_place e) (code_place d)) [
      | inl below ↦ ap (λ a. least a e) (keeps c d h) ∙ ap (least c) (sym (swaps d e below))
      | inr above ↦ ap (λ a. least a e) (keeps c d h) ∙ keeps c e (omega arith) ∙ sym (ap (least c) (keeps d e above) ∙ keeps c d h)
    ]

second_least : (c d e : Code) → code_place d < code_place c → least (least c d) e ≡ least c (least d e)
second_least c d e h =
    elim (cases_lt (code_place e) (code_place d)) [
      | inl below ↦ ap (λ a. least a e) (swaps c d h) ∙ swaps d e below ∙ sym (ap (least c) (swaps d e below) ∙ swaps c e (omega arith))
      | inr above ↦ ap (λ a. least a e) (swaps c d h) ∙ keeps d e above ∙ sym (ap (least c) (keeps d e above) ∙ swaps c d h)
    ]

least_grouped : (c d e : Code) → least (least c d) e ≡ least c (least d e)
least_grouped c d e = elim (cases_lt (code_place d) (code_place c)) [ inl below ↦ second_least c d e below | inr above ↦ first_least c d e above ]

pub lesser_grouped : (a b c : Option Code) → lesser (lesser a b) c ≡ lesser a (lesser b c)
lesser_grouped None b c = refl
lesser_grouped (Some a) None c = refl
lesser_grouped (Some a) (Some b) None = refl
lesser_grouped (Some a) (Some b) (Some c) = ap Some (least_grouped a b c)

-- where the lesser of two is none, neither is a fault
pub no_lesser : (a b : Option Code) → lesser a b ≡ None → (a ≡ None) × (b ≡ None)
no_lesser None b h = (refl, h)
no_lesser (Some a) None h = cc
no_lesser (Some a) (Some b) h = cc
