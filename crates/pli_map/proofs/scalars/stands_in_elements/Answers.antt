use Rattle.std.proofs.Common.{◌/◌, ◌%◌, ap, ◌∙◌, arith}
use Rattle.pli_map.specs.Sizes.{count_of, stride_of}
use Rattle.pli_map.specs.views.DescriptionView.{description_view}
use Rattle.pli_map.proofs.FoundScalars.{stride_found}
use Rattle.pli_map.proofs.ScalarsAmong.{some_in_array}
use Rattle.pli_map.proofs.scalars.stands_in_elements.Goals as goal

pub returns : goal.returns
returns c = λ found.
    let d = description_view c.args.element.now in
    let stride = stride_found (count_of c.args.bounds.now) (stride_of d) c.args.size c.element_count-count.result c.requires (omega arith) c.element_count-count.ensures (omega arith) in
    some_in_array c.args.bounds.now d c.args.offset c.divided-index.result.0 c.divided-index.result.1 c.element_count-count.result (description_view c.args.part.now)
    (c.divided-index.ensures.passed ∙ ap (λ s. c.args.offset / s) stride) (c.divided-index.ensures.left ∙ ap (λ s. c.args.offset % s) stride)
    c.element_count-count.ensures c.if-index-count.false (c.stands_in_element.ensures found)
