use Rattle.std.proofs.Common.{◌*◌, min, ap, ◌∙◌, arith}
use Rattle.std.specs.Int.{next_multiple_of}
use Rattle.pli_map.specs.Sizes.{count_of, stride_of}
use Rattle.pli_map.specs.views.DescriptionView.{description_view}
use Rattle.pli_map.proofs.FarSizes.{cut_product, cut_stride, end_step}
use Rattle.pli_map.proofs.Members.{next_member}
use Rattle.pli_map.proofs.extents.+far_size.Goals as goal

pub far_array-returns : goal.far_array-returns
far_array-returns t c =
    let d = description_view c.args.element.now in
    let alignment = c.from.ensures ∙ c.alignment.ensures.value in
    let stride = c.aligned-stride.ensures.value ∙ cut_stride d c.far_size.result c.from.result c.far_size.ensures alignment in
    c.min.ensures ∙ ap (λ n. min n 4294967296) c.saturating_mul.ensures
    ∙ ap (λ n. min (min (n * c.aligned-stride.result) 18446744073709551615) 4294967296) c.every_element.ensures
    ∙ ap (λ n. min (min (min (count_of c.args.bounds.now) 18446744073709551615 * n) 18446744073709551615) 4294967296) stride
    ∙ cut_product 4294967296 18446744073709551615 (count_of c.args.bounds.now) (stride_of d) (omega arith)

pub far_end-loop-member-preserved : goal.far_end-loop-member-preserved
far_end-loop-member-preserved t c =
    let l = c.loop-member in
    let left = next_member c.args.members.now l.member-index c.member-item.result c.loop-member-test.true c.member-item.is in
    let start = c.aligned-start.ensures.value ∙ ap (λ n. next_multiple_of l.end n) (c.from.ensures ∙ c.alignment.ensures.value) in
    record {
      end = end_step l.end c.far_size.result c.aligned-start.result c.min-end.result _ _ (description_view c.member-item.result) _ left start c.far_size.ensures c.min-end.ensures l.invariant.end;
      limit = omega arith;
    }
