use Rattle.std.proofs.Common.{◌≡◌, sym, Some}
use Rattle.pli_map.specs.Parts.{Member, part_at}
use Rattle.pli_map.specs.views.DescriptionView.{description_view}
use Rattle.pli_map.specs.views.PartView.{part_view}
use Rattle.pli_type_names.proofs.PlainLemmas.{plain_stands, plain_step}
use Rattle.pli_type_names.proofs.part.StridedPart.into_member.Goals as goal

pub into_placed-requires-clause-plain : goal.into_placed-requires-clause-plain
into_placed-requires-clause-plain c =
    let d = description_view c.in_ok-element.element.description.now in
    let at : part_at d (Member c.args.number) ≡ Some (part_view c.in-Some.member) = sym c.in-Some.ensures in
    plain_stands (part_view c.in-Some.member).description
    (plain_step d c.args.number (part_view c.in-Some.member) c.in_ok-element.element.plain at).plain

pub into_placed-requires-clause-within : goal.into_placed-requires-clause-within
into_placed-requires-clause-within c =
    let d = description_view c.in_ok-element.element.description.now in
    let at : part_at d (Member c.args.number) ≡ Some (part_view c.in-Some.member) = sym c.in-Some.ensures in
    (plain_step d c.args.number (part_view c.in-Some.member) c.in_ok-element.element.plain at).within
