use Rattle.std.proofs.Common.{◌≡◌, ◌++◌, map, drop}
use Rattle.std.specs.List.{flat_map}
use Rattle.pli_deck_write.specs.ModuleFields.{member_bytes}
use Rattle.pli_code.specs.views.CodeView.{lent_member_view}
use Rattle.pli_deck_write.proofs.modules.put_members.Given as goal

-- what was put so far, in front of what is left, is all that is put
abbrev pub invariant-loop-unit : goal.invariant-loop-unit
invariant-loop-unit l =
    l.out.items ++ flat_map member_bytes (map lent_member_view (drop l.unit-index l.units)) ≡ l.fn.out.items ++ flat_map member_bytes (map lent_member_view l.units)
