use Rattle.std.proofs.Common.{◌≡◌, ◌*◌, ◌+◌, take}
use Rattle.pli_map.specs.Description as tree
use Rattle.pli_map.specs.Sizes.{end_after}
use Rattle.pli_map.specs.Values.{first_values_of}
use Rattle.pli_map.specs.views.DescriptionView.{description_view, members_view}
use Rattle.pli_map.proofs.ScalarPlaces.{nodes, nodes_among}
use Rattle.pli_bytes.specs.answers.Laying.{LaidAt}
use Rattle.pli_bytes.proofs.FirstsLaid.{FirstElements}
use Rattle.pli_bytes.proofs.beginning.+lay_first.Given as goal

abbrev pub decreases-lay_first_at : goal.decreases-lay_first_at
decreases-lay_first_at l = 2 * nodes (description_view l.description.now)

abbrev pub decreases-lay_first_members : goal.decreases-lay_first_members
decreases-lay_first_members l = 2 * nodes_among (members_view l.members.now) + 1

abbrev pub decreases-lay_first_elements : goal.decreases-lay_first_elements
decreases-lay_first_elements l = 2 * nodes (description_view l.element.now) + 1

-- the members so far are laid
abbrev pub invariant-lay_first_members-loop-member : goal.invariant-lay_first_members-loop-member
invariant-lay_first_members-loop-member l =
    record {
      laid : LaidAt l.at (tree.Structure (members_view (take l.member-index l.members)))
          (first_values_of (members_view (take l.member-index l.members))) l.fn.bytes l.bytes;
      end : l.end ≡ end_after 0 (members_view (take l.member-index l.members));
    }

-- the elements so far are laid
abbrev pub invariant-lay_first_elements-loop-made : goal.invariant-lay_first_elements-loop-made
invariant-lay_first_elements-loop-made l = FirstElements l.at (description_view l.element) l.made l.fn.bytes l.bytes
