use Rattle.std.proofs.Common.{◌≡◌, ◌*◌, ap, ◌∙◌, arith}
use Rattle.pli_map.specs.views.DescriptionView.{description_view}
use Rattle.pli_map.specs.Sizes.{stride_of}
use Rattle.pli_map.proofs.Elements.{found, found_part}
use Rattle.pli_map.proofs.parts.element.Goals as goal

pub returns-in_err-measure : goal.returns-in_err-measure
returns-in_err-measure c =
    let f = found c.args.bounds.now (description_view c.args.description.now) c.args.subscripts.now c.in_ok-index.index c.requires c.in_ok-index.ensures in
    absurd (omega (arith, f.size, c.in_err-measure.ensures))

pub overflow_cast-result : goal.overflow_cast-result
overflow_cast-result c =
    let d = description_view c.args.description.now in
    let f = found c.args.bounds.now d c.args.subscripts.now c.in_ok-index.index c.requires c.in_ok-index.ensures in
    let stride : c.from.result ≡ stride_of d = c.from.ensures ∙ c.stride-stride.ensures.value ∙ rw (c.in_ok-measure.ensures.1, c.in_ok-measure.ensures.2) in
    let same : c.in_ok-index.index * c.from.result ≡ c.in_ok-index.index * stride_of d = ap (λ n. c.in_ok-index.index * n) stride in
    omega (arith, f.bound, same)

pub returns : goal.returns
returns c =
    let d = description_view c.args.description.now in
    let f = found c.args.bounds.now d c.args.subscripts.now c.in_ok-index.index c.requires c.in_ok-index.ensures in
    let stride : c.from.result ≡ stride_of d = c.from.ensures ∙ c.stride-stride.ensures.value ∙ rw (c.in_ok-measure.ensures.1, c.in_ok-measure.ensures.2) in
    found_part c.args.bounds.now d c.args.subscripts.now c.in_ok-index.index _ f (ap (λ n. c.in_ok-index.index * n) stride)
