use Rattle.std.proofs.Common.{◌≡◌, ℕ, nat_eq, drop}
use Rattle.indexmap.specs.IndexMap.{get}
use Rattle.pli_declare_outline.specs.views.OutlineView.{marks_view}
use Rattle.pli_declare.specs.Symbols.{found_after, found_in}
use Rattle.pli_declare.specs.ResolvedUnits as spec
use Rattle.pli_resolve_unit.proofs.look_ups.functions.Given as goal

-- what was found so far, with the marks that are left, is what all of them give
abbrev pub invariant-loop-placed : goal.invariant-loop-placed
invariant-loop-placed l =
    (at : ℕ) → found_after (get nat_eq l.functions at) (spec.functions_in (marks_view (drop l.placed-index l.marks))) at
    ≡ found_in (spec.functions_in (marks_view l.marks)) at
