use Rattle.std.proofs.Common.{◌≡◌, ◌≤◌, ◌+◌, map, drop, length, sum_by}
use Rattle.pli_link.specs.Units.{Compiled}
use Rattle.pli_link.specs.views.UnitView.{compiled_view}
use Rattle.pli_link.proofs.sizes.are_instructions_too_many.Given as goal

-- the instructions so far, and those of the units that are left, are those of all
abbrev pub invariant-loop-unit : goal.invariant-loop-unit
invariant-loop-unit l =
    (l.count ≤ 1000000)
    × (l.count + sum_by (λ (c : Compiled). length c.deck.code.instructions) (map compiled_view (drop l.unit-index l.units))
    ≡ sum_by (λ (c : Compiled). length c.deck.code.instructions) (map compiled_view l.units))
