use Rattle.std.proofs.Common.{◌≡◌, ◌<◌, ◌≤◌, max, drop}
use Rattle.pli_map.specs.Sizes.{greatest_alignment, end_after}
use Rattle.pli_map.specs.views.DescriptionView.{members_view}
use Rattle.pli_map.proofs.sizes.+measure.Given as goal

-- what is left, after the members so far, ends where all end
abbrev pub invariant-measure_members-loop-member : goal.invariant-measure_members-loop-member
invariant-measure_members-loop-member l =
    record {
      end : end_after l.whole.bytes (members_view (drop l.member-index l.members)) ≡ end_after 0 (members_view l.members);
      alignment : max l.whole.alignment (greatest_alignment (members_view (drop l.member-index l.members))) ≡ greatest_alignment (members_view l.members);
      in_limit : l.whole.bytes ≤ 1000000;
      positive : 0 < l.whole.alignment;
      small : l.whole.alignment ≤ 8;
    }
