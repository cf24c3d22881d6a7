use Rattle.std.proofs.Common.{◌≡◌, ◌+◌, ◌-◌, ◌*◌, ◌/◌, ◌%◌, min, Some, None, option_map, refl, sym, ap, ◌∙◌, arith}
use Rattle.std.specs.Int.{next_multiple_of}
use Rattle.pli_map.specs.Scalars.{scalars_in, first_scalar}
use Rattle.pli_map.specs.Sizes.{count_of, stride_of}
use Rattle.pli_map.specs.views.DescriptionView.{description_view}
use Rattle.pli_map.proofs.FoundScalars.{found_here, after_member, none_before_member, none_in_member, some_in_member, quotient_is, no_element, none_in_element, some_in_element}
use Rattle.pli_map.proofs.Members.{next_member}
use Rattle.pli_map.proofs.scalars.+first_scalar.Goals as goal

pub scalar_of_member-loop-member-preserved : goal.scalar_of_member-loop-member-preserved
scalar_of_member-loop-member-preserved t c =
    let l = c.loop-member in
    let left = next_member c.args.members.now l.member-index c.member-item.result c.loop-member-test.true c.member-item.is in
    let start = c.aligned-start.ensures.value ∙ ap (λ n. next_multiple_of l.at n) (c.from.ensures ∙ c.alignment.ensures.value) in
    let before : c.saturating_add-before.result ≡ min (l.before + c.scalars_in.result) 18446744073709551615 = c.saturating_add-before.ensures in
    record {
      whole = after_member 18446744073709551615 _ l.at l.before c.args.offset _ _ (description_view c.member-item.result) (description_view c.args.part.now)
          c.aligned-start.result left start l.invariant.whole c.far_size.result c.saturating_add-before.result c.far_size.ensures (omega arith)
          (omega arith) (before ∙ ap (λ n. min (l.before + n) 18446744073709551615) c.scalars_in.ensures);
      near = omega arith;
    }

pub scalar_of_member-returns-then-from-start : goal.scalar_of_member-returns-then-from-start
scalar_of_member-returns-then-from-start t c =
    let l = c.loop-member in
    let left = next_member c.args.members.now l.member-index c.member-item.result c.loop-member-test.true c.member-item.is in
    let start = c.aligned-start.ensures.value ∙ ap (λ n. next_multiple_of l.at n) (c.from.ensures ∙ c.alignment.ensures.value) in
    none_before_member 18446744073709551615 _ l.at l.before c.args.offset _ _ (description_view c.member-item.result) (description_view c.args.part.now)
    c.aligned-start.result left start l.invariant.whole (omega arith)

pub scalar_of_member-returns-in_err-inner : goal.scalar_of_member-returns-in_err-inner
scalar_of_member-returns-in_err-inner t c =
    let l = c.loop-member in
    let left = next_member c.args.members.now l.member-index c.member-item.result c.loop-member-test.true c.member-item.is in
    let start = c.aligned-start.ensures.value ∙ ap (λ n. next_multiple_of l.at n) (c.from.ensures ∙ c.alignment.ensures.value) in
    rw c.from_residual.ensures
    (none_in_member 18446744073709551615 _ l.at l.before c.args.offset _ _ (description_view c.member-item.result) (description_view c.args.part.now)
    c.aligned-start.result left start l.invariant.whole c.far_size.result (c.args.offset - c.aligned-start.result) c.far_size.ensures
    (omega arith) (omega arith) refl (rw c.from-then-from-end.ensures at c.in_err-inner.ensures))

pub scalar_of_member-returns-then-from-end : goal.scalar_of_member-returns-then-from-end
scalar_of_member-returns-then-from-end t c =
    let l = c.loop-member in
    let left = next_member c.args.members.now l.member-index c.member-item.result c.loop-member-test.true c.member-item.is in
    let start = c.aligned-start.ensures.value ∙ ap (λ n. next_multiple_of l.at n) (c.from.ensures ∙ c.alignment.ensures.value) in
    some_in_member 18446744073709551615 _ l.at l.before c.args.offset _ _ (description_view c.member-item.result) (description_view c.args.part.now)
    c.aligned-start.result left start l.invariant.whole c.far_size.result (c.args.offset - c.aligned-start.result) c.in_ok-inner.inner
    c.saturating_add.result c.far_size.ensures (omega arith) (omega arith) refl (rw c.from-then-from-end.ensures at c.in_ok-inner.ensures) c.saturating_add.ensures

pub scalar_of_element-returns-then-index-every_element : goal.scalar_of_element-returns-then-index-every_element
scalar_of_element-returns-then-index-every_element t c =
    let d = description_view c.args.element.now in
    let cut = quotient_is c.args.offset d c.far_stride.result (omega arith) c.far_stride.ensures in
    no_element 18446744073709551615 c.divided-index.result.0 (c.args.offset / stride_of d) c.every_element.result (count_of c.args.bounds.now) _
    (first_scalar d (c.args.offset % stride_of d) (description_view c.args.part.now)) (c.divided-index.ensures.passed ∙ cut.0)
    (omega (arith, c.divided-index.ensures.bound)) c.every_element.ensures c.if-index-every_element.true

pub scalar_of_element-returns-in_err-first_scalar : goal.scalar_of_element-returns-in_err-first_scalar
scalar_of_element-returns-in_err-first_scalar t c =
    let d = description_view c.args.element.now in
    let part = description_view c.args.part.now in
    let cut = quotient_is c.args.offset d c.far_stride.result (omega arith) c.far_stride.ensures in
    let inner : None ≡ option_map (λ k. min k 18446744073709551615) (first_scalar d (c.args.offset % stride_of d) part) =
    c.in_err-first_scalar.ensures ∙ ap (λ n. option_map (λ k. min k 18446744073709551615) (first_scalar d n part)) (c.divided-index.ensures.left ∙ cut.1) in
    rw c.from_residual.ensures
    (none_in_element 18446744073709551615 c.divided-index.result.0 (c.args.offset / stride_of d) c.every_element.result (count_of c.args.bounds.now) _
    (first_scalar d (c.args.offset % stride_of d) part) (c.divided-index.ensures.passed ∙ cut.0) c.every_element.ensures c.if-index-every_element.false inner)

pub scalar_of_element-returns : goal.scalar_of_element-returns
scalar_of_element-returns t c =
    let d = description_view c.args.element.now in
    let part = description_view c.args.part.now in
    let index = c.divided-index.result.0 in
    let cut = quotient_is c.args.offset d c.far_stride.result (omega arith) c.far_stride.ensures in
    let index_is : index ≡ c.args.offset / stride_of d = c.divided-index.ensures.passed ∙ cut.0 in
    let inner : Some c.in_ok-first_scalar.field-0 ≡ option_map (λ k. min k 18446744073709551615) (first_scalar d (c.args.offset % stride_of d) part) =
    c.in_ok-first_scalar.ensures ∙ ap (λ n. option_map (λ k. min k 18446744073709551615) (first_scalar d n part)) (c.divided-index.ensures.left ∙ cut.1) in
    let before = c.saturating_mul-before.ensures
    ∙ ap (λ n. min (index * n) 18446744073709551615) c.scalars_in.ensures
    ∙ ap (λ n. min (n * min (scalars_in d) 18446744073709551615) 18446744073709551615) index_is in
    some_in_element 18446744073709551615 index (c.args.offset / stride_of d) c.every_element.result (count_of c.args.bounds.now) c.saturating_mul-before.result
    (scalars_in d) c.in_ok-first_scalar.field-0 c.saturating_add.result (first_scalar d (c.args.offset % stride_of d) part) index_is c.every_element.ensures
    c.if-index-every_element.false before c.saturating_add.ensures inner

pub first_scalar-returns-then-stands_here : goal.first_scalar-returns-then-stands_here
first_scalar-returns-then-stands_here t c =
    rw (found_here (description_view c.args.whole.now) c.args.offset (description_view c.args.part.now) (sym c.stands_here.ensures ∙ c.if-stands_here.true)) refl
