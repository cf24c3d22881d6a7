use Rattle.std.proofs.Common.{◌≡◌, ◌++◌, map, drop}
use Rattle.std.specs.List.{flat_map}
use Rattle.pli_deck_write.specs.ModuleFields.{member_bytes}
use Rattle.pli_code.specs.views.CodeView.{lent_member_view}
use Rattle.pli_deck_write.proofs.spelled.put_spelled_members.Given as goal

-- what was put so far, in front of what is left, is all that is put
abbrev pub invariant-loop-at : goal.invariant-loop-at
invariant-loop-at l =
    l.out.items ++ flat_map member_bytes (map lent_member_view (drop l.at l.units)) ≡ l.fn.out.items ++ flat_map member_bytes (map lent_member_view l.units)
