use Rattle.std.proofs.Common.{◌≡◌, ◌++◌, map, drop}
use Rattle.pli_declare_tables.specs.views.TableView.{named_view}
use Rattle.pli_declare_tables.proofs.entries.levels_of.Given as goal

-- the levels so far, and those of the names that are left
abbrev pub invariant-loop-named : goal.invariant-loop-named
invariant-loop-named l =
    l.levels.items ++ map (λ x. x.1.level) (map named_view (drop l.named-index l.names)) ≡ map (λ x. x.1.level) (map named_view l.names)
