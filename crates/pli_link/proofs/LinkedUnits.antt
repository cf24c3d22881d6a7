-- Which module units without faults give.
use Rattle.std.proofs.Common.{◌≡◌, ℕ, ◌+◌, ◌<◌, ◌≤◌, nat_lt, Bool, true, false, not, cond, Option, Some, None, List, [], ◌∷◌, length, map, position, refl, ap, ◌∙◌, arith}
use Rattle.std.specs.List.{position_or_len}
use Rattle.std.proofs.lemmas.List.{length-map}
use Rattle.std.proofs.lemmas.Bool.Decides.{nat_tests}
use Rattle.pli_link.specs.Link.{link_faults, link_of, module_or}
use Rattle.pli_link.specs.Units as plain
use Rattle.pli_link.specs.declared.linking.LinkFault.{LinkFault}
use Rattle.pli_link.specs.declared.units.NamedUnit.{NamedUnit}
use Rattle.pli_link.specs.views.UnitView.{compiled_view}
use Rattle.pli_link.proofs.Faultless.{faultless, small}

pub empty_list : {A : Type 0} (xs : List A) → length xs ≡ 0 → xs ≡ []
empty_list [] e = refl
empty_list (x ∷ xs) e = absurd (omega (arith, e))

-- where a unit stands, as code has it and as it is seen
place_seen : (us : List NamedUnit) → position_or_len (λ (c : plain.Compiled). c.deck.is_main) (map compiled_view us) ≡ position_or_len (λ (u : NamedUnit). u.deck.now.is_main) us
place_seen [] = refl
place_seen (u ∷ us) = ap (λ n. cond (not u.deck.now.is_main) (1 + n) 0) (place_seen us)

pub main_seen : (us : List NamedUnit) → position (λ (c : plain.Compiled). c.deck.is_main) (map compiled_view us) ≡ position (λ (u : NamedUnit). u.deck.now.is_main) us
main_seen us =
    ap (λ n. cond (nat_lt n (length (map compiled_view us))) (Some n) None) (place_seen us)
    ∙ ap (λ n. cond (nat_lt (position_or_len (λ (u : NamedUnit). u.deck.now.is_main) us) n) (Some (position_or_len (λ (u : NamedUnit). u.deck.now.is_main) us)) None) (length-map us compiled_view)

within : (k n i : ℕ) → cond (nat_lt k n) (Some k) None ≡ Some i → i < n
within k n i e = by (nat_lt k n) refl e
  where
    by : (b : Bool) → nat_lt k n ≡ b → cond b (Some k) None ≡ Some i → i < n
    by true is h = let same : k ≡ i = cc in grind (arith, nat_tests)
    by false is h = let bad : ⊥ = cc in absurd bad

pub main_within : (us : List NamedUnit) (i : ℕ) → position (λ (u : NamedUnit). u.deck.now.is_main) us ≡ Some i → i < length us
main_within us i e = within (position_or_len (λ (u : NamedUnit). u.deck.now.is_main) us) (length us) i e

-- units without faults are few
pub few_seen : (us : List NamedUnit) → link_faults (map compiled_view us) ≡ [] → length (map compiled_view us) ≤ 65535
few_seen us none = (small (map compiled_view us) (faultless (map compiled_view us) none).small).units

pub few_units : (us : List NamedUnit) → link_faults (map compiled_view us) ≡ [] → length us ≤ 65535
few_units us none = omega (arith, few_seen us none, length-map us compiled_view)

-- what a link of them gives
pub linked_without : (cs : List plain.Compiled) (faults : List LinkFault) (main : Option ℕ) → link_faults cs ≡ faults → position (λ (c : plain.Compiled). c.deck.is_main) cs ≡ main
    → link_of cs ≡ module_or faults main cs
linked_without cs faults main f m = ap (λ fs. module_or fs (position (λ (c : plain.Compiled). c.deck.is_main) cs) cs) f ∙ ap (λ o. module_or faults o cs) m
