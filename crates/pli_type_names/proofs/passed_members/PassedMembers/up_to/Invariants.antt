use Rattle.std.proofs.Common.{◌≡◌, ◌≤◌, take}
use Rattle.pli_map.specs.Sizes.{end_after}
use Rattle.pli_map.specs.views.DescriptionView.{members_view}
use Rattle.pli_type_names.proofs.passed_members.PassedMembers.up_to.Given as goal

-- where the last of those ends that are passed so far
abbrev pub invariant-loop-next : goal.invariant-loop-next
invariant-loop-next l = record {
  ends : l.end ≡ end_after 0 (members_view (take l.next l.from.members.now.items));
  in_limit : l.end ≤ 1000000;
}
