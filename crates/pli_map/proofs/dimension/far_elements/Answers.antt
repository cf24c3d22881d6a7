use Rattle.std.proofs.Common.{◌*◌, min, ap, ◌∙◌, arith}
use Rattle.pli_map.specs.Sizes.{count_of, stride_of}
use Rattle.pli_map.specs.views.DescriptionView.{description_view}
use Rattle.pli_map.proofs.FarSizes.{cut_product}
use Rattle.pli_map.proofs.dimension.far_elements.Goals as goal

pub returns : goal.returns
returns c =
    let d = description_view c.args.element.now in
    c.min.ensures ∙ ap (λ n. min n 4294967296) c.saturating_mul.ensures
    ∙ ap (λ n. min (min (n * c.far_stride.result) 18446744073709551615) 4294967296) c.every_element.ensures
    ∙ ap (λ n. min (min (min (count_of c.args.later.now) 18446744073709551615 * n) 18446744073709551615) 4294967296) c.far_stride.ensures
    ∙ cut_product 4294967296 18446744073709551615 (count_of c.args.later.now) (stride_of d) (omega arith)
