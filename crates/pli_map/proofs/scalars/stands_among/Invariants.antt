use Rattle.std.proofs.Common.{◌≡◌, ◌≤◌, true, drop}
use Rattle.std.specs.Option.{is_some}
use Rattle.pli_map.specs.Scalars.{scalar_after}
use Rattle.pli_map.specs.views.DescriptionView.{description_view, members_view}
use Rattle.pli_map.proofs.scalars.stands_among.Given as goal

-- what is found among the members that are left is found among all
abbrev pub invariant-loop-member : goal.invariant-loop-member
invariant-loop-member l =
    record {
      found : is_some (scalar_after l.at (members_view (drop l.member-index l.members)) l.offset (description_view l.part)) ≡ true
          → is_some (scalar_after 0 (members_view l.members) l.offset (description_view l.part)) ≡ true;
      near : l.at ≤ l.offset;
    }
