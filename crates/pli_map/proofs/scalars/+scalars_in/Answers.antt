use Rattle.std.proofs.Common.{◌*◌, min, ap, ◌∙◌}
use Rattle.pli_map.specs.Scalars.{scalars_in}
use Rattle.pli_map.specs.Sizes.{count_of}
use Rattle.pli_map.specs.views.DescriptionView.{description_view}
use Rattle.pli_map.proofs.FarSizes.{cut_both}
use Rattle.pli_map.proofs.scalars.+scalars_in.Goals as goal

pub scalars_of_array-returns : goal.scalars_of_array-returns
scalars_of_array-returns t c =
    let inner = scalars_in (description_view c.args.element.now) in
    c.saturating_mul.ensures
    ∙ ap (λ n. min (n * c.scalars_in.result) 18446744073709551615) c.every_element.ensures
    ∙ ap (λ n. min (min (count_of c.args.bounds.now) 18446744073709551615 * n) 18446744073709551615) c.scalars_in.ensures
    ∙ cut_both 18446744073709551615 (count_of c.args.bounds.now) inner
