use Rattle.std.proofs.Common.{arith}
use Rattle.pli_map.specs.views.DescriptionView.{members_view}
use Rattle.pli_map.proofs.Alignments.{members_positive}
use Rattle.pli_map.proofs.sizes.+alignment.Goals as goal

pub members_alignment-loop-member-init : goal.members_alignment-loop-member-init
members_alignment-loop-member-init t c =
    record { whole = omega (arith, members_positive (members_view c.args.members.now)); positive = omega arith; small = omega arith }
