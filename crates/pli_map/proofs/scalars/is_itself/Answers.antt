use Rattle.std.proofs.Common.{ap, sym, ◌∙◌}
use Rattle.std.specs.Option.{is_some}
use Rattle.pli_map.specs.Scalars.{first_scalar}
use Rattle.pli_map.specs.views.DescriptionView.{description_view}
use Rattle.pli_map.proofs.ScalarLawsHold.{whole_found}
use Rattle.pli_map.proofs.scalars.is_itself.Goals as goal

pub returns : goal.returns
returns c = λ same.
    let d = description_view c.args.whole.now in
    ap (λ n. is_some (first_scalar d n (description_view c.args.part.now))) c.if-offset-ne0.false
    ∙ ap (λ p. is_some (first_scalar d 0 p)) (sym (c.are_same_scalars.ensures same))
    ∙ ap is_some (whole_found d)
