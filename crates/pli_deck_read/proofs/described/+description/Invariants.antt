use Rattle.std.proofs.Common.{◌≡◌, ◌+◌, ◌*◌, ◌-◌, map}
use Rattle.pli_map.specs.views.ParameterView.{type_view}
use Rattle.pli_code.specs.Fields.{many}
use Rattle.pli_deck_write.specs.Descriptions.{description_within}
use Rattle.pli_deck_read.proofs.LoopLemmas.{with_front}
use Rattle.pli_deck_read.proofs.described.+description.Given as goal

-- each call is of fewer levels, or of the same with a lesser number after the product
abbrev pub decreases-description_at : goal.decreases-description_at
decreases-description_at l = 4 * l.levels

abbrev pub decreases-array_at : goal.decreases-array_at
decreases-array_at l = 4 * l.levels + 1

abbrev pub decreases-members_at : goal.decreases-members_at
decreases-members_at l = 4 * l.levels + 1

abbrev pub decreases-structure_at : goal.decreases-structure_at
decreases-structure_at l = 4 * l.levels + 2

abbrev pub decreases-element_at : goal.decreases-element_at
decreases-element_at l = 4 * l.levels + 1

abbrev pub decreases-open_array_at : goal.decreases-open_array_at
decreases-open_array_at l = 4 * l.levels + 2

abbrev pub decreases-any_array_at : goal.decreases-any_array_at
decreases-any_array_at l = 4 * l.levels + 3

-- the members that were read, in front of those that are left, are all of them
abbrev pub invariant-members_at-loop : goal.invariant-members_at-loop
invariant-members_at-loop l =
    let read = (description_within l.version l.levels).read in
    with_front (map type_view l.members.items) (many read (l.count - l.counter) l.rest) ≡ many read l.count l.bytes
