use Rattle.std.proofs.Common.{◌≡◌, ◌+◌, ◌≤◌, min, drop}
use Rattle.pli_map.specs.Scalars.{scalars_among}
use Rattle.pli_map.specs.views.DescriptionView.{members_view}
use Rattle.pli_map.proofs.scalars.+scalars_in.Given as goal

-- the count so far and that of what is left are that of all, up to the limit
abbrev pub invariant-scalars_among-loop-member : goal.invariant-scalars_among-loop-member
invariant-scalars_among-loop-member l =
    record {
      whole : min (l.count + scalars_among (members_view (drop l.member-index l.members))) 18446744073709551615 ≡ min (scalars_among (members_view l.members)) 18446744073709551615;
      limit : l.count ≤ 18446744073709551615;
    }
