use Rattle.std.proofs.Common.{◌≡◌, ◌*◌, ◌+◌, take, map}
use Rattle.pli_map.specs.Description as tree
use Rattle.pli_map.specs.Sizes.{end_after}
use Rattle.pli_map.specs.views.DescriptionView.{description_view, members_view}
use Rattle.pli_map.proofs.ScalarPlaces.{nodes, nodes_among}
use Rattle.pli_value.specs.Value.{value_view}
use Rattle.pli_bytes.specs.answers.Laying.{LaidFront}
use Rattle.pli_bytes.proofs.LaidFronts.{ElementsFront}
use Rattle.pli_bytes.proofs.laying.+lay.Given as goal

abbrev pub decreases-lay_at : goal.decreases-lay_at
decreases-lay_at l = 2 * nodes (description_view l.description.now)

abbrev pub decreases-lay_members : goal.decreases-lay_members
decreases-lay_members l = 2 * nodes_among (members_view l.members.now) + 1

abbrev pub decreases-lay_elements : goal.decreases-lay_elements
decreases-lay_elements l = 2 * nodes (description_view l.element.now) + 1

-- the members so far are laid
abbrev pub invariant-lay_members-loop-member : goal.invariant-lay_members-loop-member
invariant-lay_members-loop-member l =
    record {
      front : LaidFront l.at (tree.Structure (members_view (take l.member-index l.members))) (map value_view l.values) (map value_view l.left) l.fn.bytes l.bytes;
      end : l.end ≡ end_after 0 (members_view (take l.member-index l.members));
    }

-- the elements so far are laid
abbrev pub invariant-lay_elements-loop-made : goal.invariant-lay_elements-loop-made
invariant-lay_elements-loop-made l =
    ElementsFront l.at (description_view l.element) l.made (map value_view l.values) (map value_view l.left) l.fn.bytes l.bytes
