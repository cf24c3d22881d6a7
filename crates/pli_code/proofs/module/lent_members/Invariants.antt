use Rattle.std.proofs.Common.{◌≡◌, ◌++◌, map, drop}
use Rattle.pli_code.specs.views.CodeView.{lent_member_view, member_view}
use Rattle.pli_code.proofs.module.lent_members.Given as goal

-- those that are lent so far, in front of what is left, say what all say
abbrev pub invariant-loop-unit : goal.invariant-loop-unit
invariant-loop-unit l =
    map lent_member_view l.lent.items ++ map member_view (drop l.unit-index l.units) ≡ map member_view l.units
