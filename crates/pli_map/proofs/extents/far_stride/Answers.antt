use Rattle.std.proofs.Common.{◌∙◌}
use Rattle.pli_map.specs.views.DescriptionView.{description_view}
use Rattle.pli_map.proofs.FarSizes.{cut_stride}
use Rattle.pli_map.proofs.extents.far_stride.Goals as goal

pub returns : goal.returns
returns c =
    c.aligned.ensures.value
    ∙ cut_stride (description_view c.args.element.now) c.far_size.result c.from.result c.far_size.ensures (c.from.ensures ∙ c.alignment.ensures.value)
