use Rattle.std.proofs.Common.{◌≡◌, ◌≤◌, Some, length, option_map, ap, sym, ◌∙◌, arith}
use Rattle.pli_map.specs.Parts.{member_after}
use Rattle.pli_map.specs.Sizes.{size_of}
use Rattle.pli_map.specs.views.DescriptionView.{description_view, members_view}
use Rattle.pli_map.specs.views.PartView.{part_view as placed_view}
use Rattle.pli_map.proofs.Members.{member_past}
use Rattle.pli_type_names.specs.OnWays.{placed_in}
use Rattle.pli_type_names.specs.views.NameView.{part_view}
use Rattle.pli_type_names.proofs.LevelsLead.{member_fits}
use Rattle.pli_type_names.proofs.PlainLemmas.{PlainMember, plain_stands}
use Rattle.pli_type_names.proofs.levels.member.Goals as goal

pub returns-then-number-len-clause-part : goal.returns-then-number-len-clause-part
returns-then-number-len-clause-part c =
    let level = c.args.level.now in
    let members = level.passed.members.now in
    let past : length members.items ≤ c.args.number = omega (arith, c.if-number-len.true, c.len.ensures, members.ok.0) in
    sym (ap (option_map (placed_in (part_view level.element))) (member_past 0 members.items c.args.number past))

-- the member is one of the structure
fits : (c : goal.After-next) → PlainMember (description_view c.args.level.now.element.description.now) (placed_view c.next.result)
fits c =
    let level = c.args.level.now in
    let now = c.up_to-level.result in
    let is : Some (placed_view c.next.result) ≡ member_after 0 (members_view level.passed.members.now.items) c.args.number =
    c.next.ensures
    ∙ ap (λ v. member_after 0 (members_view v.items) now.count) c.up_to-level.ensures.members
    ∙ ap (member_after 0 (members_view level.passed.members.now.items)) c.up_to-level.ensures.count in
    member_fits (description_view level.element.description.now) (members_view level.passed.members.now.items) c.args.number (placed_view c.next.result)
    level.element.plain c.requires is

pub into_placed-requires-clause-plain : goal.into_placed-requires-clause-plain
into_placed-requires-clause-plain c = plain_stands (placed_view c.next.result).description (fits c).plain

pub into_placed-requires-clause-within : goal.into_placed-requires-clause-within
into_placed-requires-clause-within c =
    omega (arith, (fits c).within, ap (λ p. size_of p.description) c.in_ok-element.ensures)
