use Rattle.std.proofs.Common.{◌≡◌, ◌++◌, List, map, drop}
use Rattle.pli_base.specs.Name.{Name}
use Rattle.pli_code.specs.views.CodeView.{lent_member_view}
use Rattle.pli_link.specs.Links.{linked_unit}
use Rattle.pli_link.specs.answers.Tables.{AreNumbered}
use Rattle.pli_link.specs.views.UnitView.{compiled_view}
use Rattle.pli_link.proofs.linked.linked_units.Given as goal

-- the units so far, and those that are left, are all
abbrev pub invariant-loop-unit : goal.invariant-loop-unit
invariant-loop-unit l =
    (names : List Name) → AreNumbered l.numbers.entries names
    → map lent_member_view l.linked.items ++ map (linked_unit names l.procedures.entries) (map compiled_view (drop l.unit-index l.units))
    ≡ map (linked_unit names l.procedures.entries) (map compiled_view l.units)
