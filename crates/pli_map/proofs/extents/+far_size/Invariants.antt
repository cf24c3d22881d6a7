use Rattle.std.proofs.Common.{◌≡◌, ◌≤◌, min, drop}
use Rattle.pli_map.specs.Sizes.{end_after}
use Rattle.pli_map.specs.views.DescriptionView.{members_view}
use Rattle.pli_map.proofs.extents.+far_size.Given as goal

-- what is left, after the members so far, ends where all end, up to the limit
abbrev pub invariant-far_end-loop-member : goal.invariant-far_end-loop-member
invariant-far_end-loop-member l =
    record {
      end : min (end_after l.end (members_view (drop l.member-index l.members))) 4294967296 ≡ min (end_after 0 (members_view l.members)) 4294967296;
      limit : l.end ≤ 4294967296;
    }
