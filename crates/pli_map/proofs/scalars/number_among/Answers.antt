use Rattle.std.proofs.Common.{◌≡◌, true, refl, sym, subst}
use Rattle.std.specs.Option.{is_some}
use Rattle.pli_map.specs.Description.{FixedBinary, Structure}
use Rattle.pli_map.specs.Scalars.{first_scalar}
use Rattle.pli_map.specs.views.DescriptionView.{description_view, members_view}
use Rattle.pli_map.proofs.scalars.number_among.Goals as goal

pub returns-then-is_first_number : goal.returns-then-is_first_number
returns-then-is_first_number c = λ e.
    let whole = Structure (members_view c.args.members.now) in
    subst (λ d. is_some (first_scalar whole c.args.offset d) ≡ true) (sym c.requires)
    (subst (λ n. is_some (first_scalar whole n (FixedBinary c.args.precision)) ≡ true) (sym c.if-offset-eq0.true) (c.if-is_first_number.ensures refl))
