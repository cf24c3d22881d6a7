use Rattle.std.proofs.Common.{◌≡◌, true, sym, subst}
use Rattle.std.specs.Option.{is_some}
use Rattle.pli_map.specs.Scalars.{first_scalar}
use Rattle.pli_map.specs.views.DescriptionView.{description_view}
use Rattle.pli_store.proofs.part.is_alone_or_element.Goals as goal

pub returns-then-offset-eq0 : goal.returns-then-offset-eq0
returns-then-offset-eq0 c = λ e.
    subst (λ o. is_some (first_scalar (description_view c.args.whole.now) o (description_view c.args.part.now)) ≡ true) (sym c.if-offset-eq0.true)
    (c.is_itself.ensures e)
