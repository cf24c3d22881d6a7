use Rattle.std.proofs.Common.{◌≡◌, ◌≤◌, map, drop}
use Rattle.pli_link.specs.ModuleSize.{all_own}
use Rattle.pli_link.specs.answers.Counting.{counted}
use Rattle.pli_link.specs.views.UnitView.{compiled_view}
use Rattle.pli_link.proofs.sizes.with_all_own.Given as goal

-- the bytes so far, with those of the units that are left, are those of all
abbrev pub invariant-loop-unit : goal.invariant-loop-unit
invariant-loop-unit l =
    (l.bytes ≤ 16777216)
    × (counted l.bytes (all_own (map compiled_view (drop l.unit-index l.units)))
    ≡ counted 0 (all_own (map compiled_view l.units)))
