use Rattle.std.proofs.Common.{Some, sym, ap, ◌∙◌, arith}
use Rattle.pli_map.specs.Parts.{PlacedPart}
use Rattle.pli_map.specs.views.DescriptionView.{description_view}
use Rattle.pli_map.proofs.Members.{member_past, member_within, end_of_first}
use Rattle.pli_map.proofs.parts.member.Goals as goal

pub returns-then-number-members : goal.returns-then-number-members
returns-then-number-members c = sym (member_past 0 c.args.members.now c.args.number c.if-number-members.true)

pub returns-in_err-before : goal.returns-in_err-before
returns-in_err-before c = absurd (omega (arith, c.in_err-before.ensures, end_of_first 0 c.args.members.now c.args.number, c.requires))

pub returns : goal.returns
returns c =
    let d = description_view c.index-members-number.result in
    let within = member_within 0 c.args.members.now c.args.number c.index-members-number.result (omega arith) c.index-members-number.is in
    let measured = c.next_multiple_of.ensures.value in
    let place : (n : _) → PlacedPart = λ n. record { offset = n; description = d } in
    ap (λ n. Some (place n)) (measured ∙ rw (c.in_ok-before.ensures.1, c.alignment.ensures.value)) ∙ sym within
