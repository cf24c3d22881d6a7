use Rattle.std.proofs.Common.{◌≡◌, drop}
use Rattle.pli_map.specs.Digests.{digest_of_members}
use Rattle.pli_map.specs.views.DescriptionView.{members_view}
use Rattle.pli_map.proofs.digest.+digest.Given as goal

abbrev pub invariant-digest_of_members-loop-member : goal.invariant-digest_of_members-loop-member
invariant-digest_of_members-loop-member l = digest_of_members l.whole (members_view (drop l.member-index l.members)) ≡ digest_of_members 9 (members_view l.members)
