use Rattle.std.proofs.Common.{◌≡◌, ◌*◌, ◌+◌, take, drop}
use Rattle.pli_map.specs.Sizes.{end_after}
use Rattle.pli_map.specs.views.DescriptionView.{description_view, members_view}
use Rattle.pli_map.proofs.ScalarPlaces.{nodes, nodes_among}
use Rattle.pli_bytes.specs.Contents.{scalar_on, scalars_after}
use Rattle.pli_bytes.proofs.scalar.+scalar_on.Given as goal

abbrev pub decreases-scalar_on : goal.decreases-scalar_on
decreases-scalar_on l = 2 * nodes (description_view l.description.now)

abbrev pub decreases-scalar_of_member : goal.decreases-scalar_of_member
decreases-scalar_of_member l = 2 * nodes_among (members_view l.members.now) + 1

abbrev pub decreases-scalar_of_element : goal.decreases-scalar_of_element
decreases-scalar_of_element l = 2 * nodes (description_view l.element.now) + 1

-- the byte is in one of the members that are left
abbrev pub invariant-scalar_of_member-loop-member : goal.invariant-scalar_of_member-loop-member
invariant-scalar_of_member-loop-member l =
    record {
      there : scalar_on l.byte (scalars_after l.end (members_view (drop l.member-index l.members))) ≡ scalar_on l.offset (scalars_after 0 (members_view l.members));
      end : l.end ≡ end_after 0 (members_view (take l.member-index l.members));
    }
