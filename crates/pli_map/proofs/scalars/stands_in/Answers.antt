use Rattle.std.proofs.Common.{min, ap, ◌∙◌}
use Rattle.std.specs.Option.{is_some}
use Rattle.pli_map.specs.Scalars.{first_scalar}
use Rattle.pli_map.specs.views.DescriptionView.{description_view}
use Rattle.pli_map.proofs.ScalarsAmong.{is_some_mapped}
use Rattle.pli_map.proofs.scalars.stands_in.Goals as goal

pub returns : goal.returns
returns c =
    let found = first_scalar (description_view c.args.whole.now) c.args.offset (description_view c.args.part.now) in
    c.is_some.ensures ∙ ap is_some c.first_scalar.ensures ∙ is_some_mapped found (λ k. min k 18446744073709551615)
