use Rattle.std.proofs.Common.{drop}
use Rattle.pli_map.specs.Marks.{HaveMark}
use Rattle.pli_map.specs.views.DescriptionView.{members_view}
use Rattle.pli_map.proofs.marks.+mark.Given as goal

-- the mark of the members from here on
abbrev pub invariant-mark_of_members-loop-at : goal.invariant-mark_of_members-loop-at
invariant-mark_of_members-loop-at l = HaveMark (members_view (drop l.at l.members)) l.mark
