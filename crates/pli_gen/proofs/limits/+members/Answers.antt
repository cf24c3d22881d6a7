use Rattle.std.proofs.Common.{◌≤◌, ◌<◌, ◌+◌, ◌||◌, ◌∙◌, ap, sym, drop, length, refl, arith}
use Rattle.pli_map.specs.views.DescriptionView.{description_view, members_view}
use Rattle.pli_gen.specs.Limits.{has_many_members, one_has_many}
use Rattle.pli_gen.proofs.LimitLemmas.{any_next, over, too_many_members, few_members}
use Rattle.pli_gen.proofs.limits.+members.Goals as goal

pub has_many_members-returns-then-len-gt-ENTRY_LIMIT : goal.has_many_members-returns-then-len-gt-ENTRY_LIMIT
has_many_members-returns-then-len-gt-ENTRY_LIMIT t c =
    let v = c.in-Structure.members in
    let many : 65535 < length v.items = omega (arith, c.len.ensures, v.ok.0, c.if-len-gt-ENTRY_LIMIT.true) in
    over 65535 c.len.result c.if-len-gt-ENTRY_LIMIT.true ∙ too_many_members c.args.description.now v c.in-Structure.is many

pub has_many_members-returns-else-len-gt-ENTRY_LIMIT : goal.has_many_members-returns-else-len-gt-ENTRY_LIMIT
has_many_members-returns-else-len-gt-ENTRY_LIMIT t c =
    let v = c.in-Structure.members in
    let few : length v.items ≤ 65535 = omega (arith, c.len.ensures, v.ok.0, c.if-len-gt-ENTRY_LIMIT.false) in
    few_members c.args.description.now v c.one_has_many.result c.in-Structure.is few
    (c.one_has_many.ensures ∙ ap (λ ms. one_has_many (members_view ms)) c.deref-else-len-gt-ENTRY_LIMIT.ensures.value)

pub one_has_many-returns-then-has_many_members : goal.one_has_many-returns-then-has_many_members
one_has_many-returns-then-has_many_members t c =
    let ds = c.args.members.now in
    let i = c.loop-member.member-index in
    ap (λ b. b || one_has_many (members_view (drop (i + 1) ds))) (sym c.if-has_many_members.true)
    ∙ any_next (λ xs. one_has_many (members_view xs)) (λ d. has_many_members (description_view d)) (λ x xs. refl) ds i c.member-item.result c.has_many_members.result _
    (omega (arith, c.loop-member-test.true)) c.member-item.is c.has_many_members.ensures c.loop-member.invariant

pub one_has_many-loop-member-preserved : goal.one_has_many-loop-member-preserved
one_has_many-loop-member-preserved t c =
    let ds = c.args.members.now in
    let i = c.loop-member.member-index in
    ap (λ b. b || one_has_many (members_view (drop (i + 1) ds))) (sym c.if-has_many_members.false)
    ∙ any_next (λ xs. one_has_many (members_view xs)) (λ d. has_many_members (description_view d)) (λ x xs. refl) ds i c.member-item.result c.has_many_members.result _
    (omega (arith, c.loop-member-test.true)) c.member-item.is c.has_many_members.ensures c.loop-member.invariant
