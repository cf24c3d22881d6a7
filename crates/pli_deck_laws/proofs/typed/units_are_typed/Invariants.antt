use Rattle.std.proofs.Common.{map, drop}
use Rattle.std.specs.List.{AllByRecursion}
use Rattle.pli_code.specs.views.CodeView.{lent_member_view}
use Rattle.pli_deck_laws.specs.UnitTypes.{IsTypedUnit}
use Rattle.pli_deck_laws.proofs.typed.units_are_typed.Given as goal

-- if it holds of the units that are left, it holds of all
abbrev pub invariant-loop-unit : goal.invariant-loop-unit
invariant-loop-unit l =
    AllByRecursion IsTypedUnit (map lent_member_view (drop l.unit-index l.units))
    → AllByRecursion IsTypedUnit (map lent_member_view l.units)
