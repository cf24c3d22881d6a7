use Rattle.std.proofs.Common.{◌≡◌, true, ap, subst}
use Rattle.std.specs.Option.{is_some}
use Rattle.pli_map.specs.Scalars.{first_scalar}
use Rattle.pli_map.specs.views.DescriptionView.{description_view}
use Rattle.pli_map.proofs.ScalarLawsHold.{whole_found}
use Rattle.pli_store.proofs.part.is_itself.Goals as goal

pub returns : goal.returns
returns c = λ e.
    let d = description_view c.args.whole.now in
    subst (λ part. is_some (first_scalar d 0 part) ≡ true) (c.are_same_scalars.ensures e) (ap is_some (whole_found d))
