use Rattle.std.proofs.Common.{◌≡◌, ℕ, nat_eq, drop, map}
use Rattle.indexmap.specs.IndexMap.{get}
use Rattle.pli_declare.specs.Symbols.{found_after, found_in}
use Rattle.pli_resolve_unit.proofs.look_ups.statement_regions.Given as goal

-- what was found so far, with the statements that are left, is what all of them give
abbrev pub invariant-loop-place : goal.invariant-loop-place
invariant-loop-place l =
    (number : ℕ) → found_after (get nat_eq l.regions number) (map (λ p. (p.number, p.region)) (drop l.place-index l.places)) number
    ≡ found_in (map (λ p. (p.number, p.region)) l.places) number
