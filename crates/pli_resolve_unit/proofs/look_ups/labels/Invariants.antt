use Rattle.std.proofs.Common.{◌≡◌, ℕ, nat_eq, drop}
use Rattle.std.specs.List.{flat_map}
use Rattle.indexmap.specs.IndexMap.{get}
use Rattle.pli_declare.specs.Symbols.{found_after, found_in}
use Rattle.pli_declare.specs.ResolvedUnits as spec
use Rattle.pli_resolve_unit.proofs.look_ups.labels.Given as goal

-- what was found so far, with the statements that are left, is what all of them give
abbrev pub invariant-loop-place : goal.invariant-loop-place
invariant-loop-place l =
    (at : ℕ) → found_after (get nat_eq l.labels at) (flat_map spec.label_statement (drop l.place-index l.places)) at
    ≡ found_in (flat_map spec.label_statement l.places) at
