use Rattle.std.proofs.Common.{◌≡◌, ◌<◌, ◌≤◌, max, drop}
use Rattle.pli_map.specs.Sizes.{greatest_alignment}
use Rattle.pli_map.specs.views.DescriptionView.{members_view}
use Rattle.pli_map.proofs.sizes.+alignment.Given as goal

-- the greatest so far and that of what is left are the greatest of all
abbrev pub invariant-members_alignment-loop-member : goal.invariant-members_alignment-loop-member
invariant-members_alignment-loop-member l =
    record {
      whole : max l.greatest (greatest_alignment (members_view (drop l.member-index l.members))) ≡ greatest_alignment (members_view l.members);
      positive : 0 < l.greatest;
      small : l.greatest ≤ 8;
    }
