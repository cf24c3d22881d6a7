use Rattle.std.proofs.Common.{map}
use Rattle.pli_code.specs.views.CodeView.{member_view}
use Rattle.pli_machine_loading.proofs.LinkedGlobals.{UnitsSoFar}
use Rattle.pli_machine_loading.proofs.linking.link_units.Given as goal

-- the units that are left are linked after those so far as all are after none
abbrev pub invariant-loop-unit : goal.invariant-loop-unit
invariant-loop-unit l =
    UnitsSoFar (map member_view l.«module».units.items) l.unit-index l.initial.shared l.shared (map (λ t. t.items) l.tables.items)
