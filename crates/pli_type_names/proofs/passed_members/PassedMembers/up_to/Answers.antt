use Rattle.std.proofs.Common.{◌≡◌, ◌+◌, ◌≤◌, length, take, ap, ◌∙◌, arith}
use Rattle.std.specs.Int.{next_multiple_of}
use Rattle.pli_map.specs.Sizes.{alignment_of, end_after, size_of}
use Rattle.pli_map.specs.views.DescriptionView.{description_view, members_view}
use Rattle.pli_type_names.proofs.MembersPassed.{counted, passed_more}
use Rattle.pli_type_names.proofs.passed_members.PassedMembers.up_to.Goals as goal

pub loop-next-preserved : goal.loop-next-preserved
loop-next-preserved c =
    let xs = c.before-from.result.members.now.items in
    let x = c.index-member.result.now in
    let l = c.loop-next in
    let all = ap (λ v. end_after 0 (members_view v.items)) c.before-from.ensures.members in
    let there = ap (λ v. length v.items) c.before-from.ensures.members in
    let more = passed_more xs l.next x (omega (arith, there, c.requires.there, l.auto.next-end, c.loop-next-test.true)) c.index-member.ensures in
    let start : c.next_multiple_of.result ≡ next_multiple_of (end_after 0 (members_view (take l.next xs))) (alignment_of (description_view x)) =
    c.next_multiple_of.ensures.value
    ∙ ap (λ n. next_multiple_of n c.alignment.result) l.invariant.ends
    ∙ ap (λ n. next_multiple_of (end_after 0 (members_view (take l.next xs))) n) c.alignment.ensures.value in
    let small : size_of (description_view x) ≤ 1000000 = omega (arith, more.ends, more.within, all, c.requires.in_limit) in
    let bytes : c.unwrap_or.result ≡ size_of (description_view x) = c.unwrap_or.ensures ∙ counted c.size.result (size_of (description_view x)) small c.size.ensures in
    let ends : c.next_multiple_of.result + c.unwrap_or.result ≡ end_after 0 (members_view (take (l.next + 1) xs)) = omega (arith, start, bytes, more.ends) in
    record { ends = ends; in_limit = omega (arith, ends, more.within, all, c.requires.in_limit) }
