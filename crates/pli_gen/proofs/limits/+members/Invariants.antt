use Rattle.std.proofs.Common.{◌≡◌, drop}
use Rattle.pli_map.specs.views.DescriptionView.{members_view}
use Rattle.pli_gen.specs.Limits.{one_has_many}
use Rattle.pli_gen.proofs.limits.+members.Given as goal

abbrev pub invariant-one_has_many-loop-member : goal.invariant-one_has_many-loop-member
invariant-one_has_many-loop-member l = one_has_many (members_view (drop l.member-index l.members)) ≡ one_has_many (members_view l.members)
