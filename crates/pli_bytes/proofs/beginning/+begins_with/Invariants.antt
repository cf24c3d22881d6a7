use Rattle.std.proofs.Common.{◌≡◌, drop}
use Rattle.pli_map.specs.views.DescriptionView.{members_view}
use Rattle.pli_bytes.specs.answers.Laying.{all_begin_with}
use Rattle.pli_bytes.proofs.beginning.+begins_with.Given as goal

-- those that are left decide
abbrev pub invariant-all_begin_with-loop-member : goal.invariant-all_begin_with-loop-member
invariant-all_begin_with-loop-member l =
    all_begin_with l.byte (members_view l.members) ≡ all_begin_with l.byte (members_view (drop l.member-index l.members))
