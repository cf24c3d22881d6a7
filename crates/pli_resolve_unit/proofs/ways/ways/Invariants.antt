use Rattle.std.proofs.Common.{◌≡◌, ◌≤◌, ℕ, drop, map, length, get_or}
use Rattle.pli_declare.specs.views.DeclarationView.{declaration_view}
use Rattle.pli_declare.specs.Symbols as spec
use Rattle.pli_resolve.specs.views.TableView.{way_view}
use Rattle.pli_resolve_unit.proofs.ways.ways.Given as goal

-- the ways so far, with those of the names that are left; no name has more members than there are names
abbrev pub invariant-loop-declaration : goal.invariant-loop-declaration
invariant-loop-declaration l = record {
  ways : spec.ways_after (map way_view l.ways.items) l.counts.items (map declaration_view (drop l.declaration-index l.declarations))
      ≡ spec.ways_of (map declaration_view l.declarations);
  few : (k : ℕ) → get_or l.counts.items k 0 ≤ length l.counts.items;
}
