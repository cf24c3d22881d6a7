use Rattle.std.proofs.Common.{◌≡◌, drop}
use Rattle.pli_map.specs.views.DescriptionView.{members_view}
use Rattle.pli_type_rules.specs.NamedUnits.{all_plain}
use Rattle.pli_type_names.proofs.descriptions.+is_plain.Given as goal

-- whether all are is what the members that are left say
abbrev pub invariant-are_plain-loop-member : goal.invariant-are_plain-loop-member
invariant-are_plain-loop-member l =
    all_plain 63 (members_view (drop l.member-index l.members)) ≡ all_plain 63 (members_view l.members)
