use Rattle.std.proofs.Common.{◌≡◌, ◌<◌, ◌+◌, ap, arith}
use Rattle.std.specs.Int.{next_multiple_of}
use Rattle.pli_map.specs.Sizes.{size_of, alignment_of, end_after}
use Rattle.pli_map.specs.views.DescriptionView.{description_view, members_view}
use Rattle.pli_map.proofs.Alignments.{members_positive}
use Rattle.pli_map.proofs.Members.{alignment_by_member, end_by_member, over_by_member, next_member}
use Rattle.pli_map.proofs.sizes.+measure.Goals as goal

pub measure_members-loop-member-init : goal.measure_members-loop-member-init
measure_members-loop-member-init t c =
    let positive = members_positive (members_view c.args.members.now) in
    record { end = ap (λ n. end_after n (members_view c.args.members.now)) c.empty-whole.ensures.bytes; alignment = omega (arith, c.empty-whole.ensures.alignment); in_limit = omega arith; positive = omega arith; small = omega arith }

pub measure_members-returns-in_err-measure : goal.measure_members-returns-in_err-measure
measure_members-returns-in_err-measure t c =
    let l = c.loop-member in
    let left = next_member c.args.members.now l.member-index c.member-item.result c.loop-member-test.true c.member-item.is in
    let over : 1000000 < size_of (description_view c.member-item.result) = c.in_err-measure.ensures in
    rw c.from_residual.ensures (over_by_member l.whole.bytes _ _ _ _ left l.invariant.end (omega arith))

pub measure_members-returns-in_err-whole : goal.measure_members-returns-in_err-whole
measure_members-returns-in_err-whole t c =
    let l = c.loop-member in
    let member = c.in_ok-measure.field-0 in
    let d = description_view c.member-item.result in
    let left = next_member c.args.members.now l.member-index c.member-item.result c.loop-member-test.true c.member-item.is in
    let measured : next_multiple_of l.whole.bytes member.alignment + member.bytes ≡ next_multiple_of l.whole.bytes (alignment_of d) + size_of d =
    rw (c.in_ok-measure.ensures.1, c.in_ok-measure.ensures.2) in
    rw c.from_residual-in_err-whole.ensures (over_by_member l.whole.bytes _ _ _ _ left l.invariant.end (omega (arith, c.in_err-whole.ensures, measured)))

pub measure_members-loop-member-preserved : goal.measure_members-loop-member-preserved
measure_members-loop-member-preserved t c =
    let l = c.loop-member in
    let d = description_view c.member-item.result in
    let member = c.in_ok-measure.field-0 in
    let whole = c.in_ok-whole.whole in
    let left = next_member c.args.members.now l.member-index c.member-item.result c.loop-member-test.true c.member-item.is in
    record {
      end = end_by_member l.whole.bytes whole.bytes _ d _ _ member.bytes member.alignment left l.invariant.end c.in_ok-measure.ensures.1 c.in_ok-measure.ensures.2 c.in_ok-whole.ensures.1;
      alignment = alignment_by_member l.whole.alignment whole.alignment _ d _ _ member.alignment left l.invariant.alignment c.in_ok-measure.ensures.2 c.in_ok-whole.ensures.2;
      in_limit = whole.in_limit;
      positive = whole.positive;
      small = whole.small;
    }
