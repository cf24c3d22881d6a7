use Rattle.std.proofs.Common.{◌≡◌, ℕ, nat_eq, drop, map}
use Rattle.indexmap.specs.IndexMap.{get}
use Rattle.pli_declare.specs.views.DeclarationView.{declaration_view}
use Rattle.pli_declare.specs.Symbols.{found_after}
use Rattle.pli_declare.specs.ResolvedUnits as spec
use Rattle.pli_resolve_unit.proofs.look_ups.note_procedures.Given as goal

-- what was found so far, with the names that are left, is what all of them give
abbrev pub invariant-loop-number : goal.invariant-loop-number
invariant-loop-number l =
    (region : ℕ) → found_after (get nat_eq l.procedures region) (spec.procedures_from l.block l.number (map declaration_view (drop l.number l.declarations))) region
    ≡ found_after (get nat_eq l.initial.procedures region) (spec.procedures_from l.block 0 (map declaration_view l.declarations)) region
