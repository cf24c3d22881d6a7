use Rattle.std.proofs.Common.{◌≡◌, ◌++◌, ◌∷◌, drop, map}
use Rattle.pli_type_templates.specs.Globals.{names_in}
use Rattle.pli_type_templates.specs.views.PlacedView.{global_view}
use Rattle.pli_type_templates.proofs.global_groups.names_of.Given as goal

-- the names so far, with those of the globals that are left, are all
abbrev pub invariant-loop-placed : goal.invariant-loop-placed
invariant-loop-placed l =
    l.names.items ++ names_in (map global_view (drop l.placed-index l.more)) ≡ l.fn.first ∷ names_in (map global_view l.more)
