use Rattle.std.proofs.Common.{◌≡◌, ◌++◌, map, drop}
use Rattle.pli_map.specs.Values.{first_values, first_values_of}
use Rattle.pli_map.specs.views.DescriptionView.{description_view, members_view}
use Rattle.pli_value.specs.Value.{value_view}
use Rattle.pli_map.proofs.FirstValues.{repeated}
use Rattle.pli_bytes.proofs.values.+first_values.Given as goal

-- so far there are the values of so many elements
abbrev pub invariant-put_elements-loop-made : goal.invariant-put_elements-loop-made
invariant-put_elements-loop-made l =
    map value_view l.values.items ≡ map value_view l.fn.values.items ++ repeated l._made (first_values (description_view l.element))

-- the values so far and those of the members that are left are those of all
abbrev pub invariant-put_members-loop-member : goal.invariant-put_members-loop-member
invariant-put_members-loop-member l =
    map value_view l.values.items ++ first_values_of (members_view (drop l.member-index l.members))
    ≡ map value_view l.fn.values.items ++ first_values_of (members_view l.members)
