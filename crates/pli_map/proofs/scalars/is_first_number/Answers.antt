use Rattle.std.proofs.Common.{drop, sym, ap, ◌∙◌}
use Rattle.std.specs.Option.{option_copied}
use Rattle.pli_map.specs.views.DescriptionView.{description_view, members_view}
use Rattle.pli_map.proofs.Members.{first_member}
use Rattle.pli_map.proofs.ScalarsAmong.{first_number}
use Rattle.pli_map.proofs.scalars.is_first_number.Goals as goal

pub returns-in-Some : goal.returns-in-Some
returns-in-Some c = λ e.
    let members = c.args.members.now in
    let member = c.in-Some.member.now in
    first_number (members_view members) (description_view member) (members_view (drop 1 members)) c.args.precision
    (first_member members member (sym c.first.ensures.value ∙ ap option_copied c.in-Some.is)) (c.is_number_of.ensures e)
