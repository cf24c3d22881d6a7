use Rattle.std.proofs.Common.{◌≡◌, drop}
use Rattle.pli_map.specs.Digests.{digest_of_types}
use Rattle.pli_map.specs.views.ParameterView.{types_view}
use Rattle.pli_map.proofs.digest.+type_digest.Given as goal

abbrev pub invariant-digest_of_types-loop-member : goal.invariant-digest_of_types-loop-member
invariant-digest_of_types-loop-member l = digest_of_types l.whole (types_view (drop l.member-index l.members)) ≡ digest_of_types 15 (types_view l.members)
