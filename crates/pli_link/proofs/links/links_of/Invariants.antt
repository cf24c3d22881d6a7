use Rattle.std.proofs.Common.{◌≡◌, ◌++◌, List, map, drop}
use Rattle.pli_base.specs.Name.{Name}
use Rattle.pli_code.specs.views.CodeView.{global_view}
use Rattle.pli_link.specs.Links.{links_of}
use Rattle.pli_link.specs.answers.Tables.{AreNumbered}
use Rattle.pli_link.proofs.links.links_of.Given as goal

-- the links so far, and those of the globals that are left, are those of all
abbrev pub invariant-loop-global : goal.invariant-loop-global
invariant-loop-global l =
    (names : List Name) → AreNumbered l.numbers.entries names
    → l.links.items ++ links_of names l.procedures.entries (map global_view (drop l.global-index l.globals))
    ≡ links_of names l.procedures.entries (map global_view l.globals)
