use Rattle.std.proofs.Common.{◌≡◌, ◌+◌, ◌*◌, ◌/◌, option_map, sym, ap, ◌∙◌, arith}
use Rattle.pli_map.specs.Description as tree
use Rattle.pli_map.specs.Parts.{moved}
use Rattle.pli_map.specs.views.DescriptionView.{description_view}
use Rattle.pli_map.specs.views.PartView.{part_view}
use Rattle.pli_bytes.proofs.LaidPlaces.{member_end, member_inside, nodes_of_member}
use Rattle.pli_bytes.proofs.PlacesOn.{on_element_of, before_member, in_this_member, in_later_member}
use Rattle.pli_bytes.proofs.Rising.{rises}
use Rattle.pli_bytes.proofs.ScalarsOn.{on_past, on_within}
use Rattle.pli_bytes.specs.Contents.{scalar_on, scalars_at}
use Rattle.pli_map.specs.Sizes.{size_of}
use Rattle.pli_bytes.proofs.scalar.+scalar_on.Goals as goal

-- ---- elements

pub scalar_of_element-returns-then-byte-size : goal.scalar_of_element-returns-then-byte-size
scalar_of_element-returns-then-byte-size t c =
    let d = tree.Array c.args.bounds.now (description_view c.args.element.now) in
    sym (on_past c.args.offset 0 (scalars_at d) (size_of d) (rises d) (omega (arith, c.if-byte-size.true, c.requires.size, c.requires.limit)))

pub scalar_of_element-scalar_on-requires : goal.scalar_of_element-scalar_on-requires
scalar_of_element-scalar_on-requires t c =
    let here = on_element_of c.args.bounds.now (description_view c.args.element.now) c.from-byte.result c.args.size c.far_size.result c.from.result
    c.next_multiple_of-stride.result c.requires.limit c.requires.size c.if-byte-size.false c.far_size.ensures
    (c.from.ensures ∙ c.alignment.ensures.value) c.next_multiple_of-stride.ensures.value in
    (omega (arith, c.decreases), omega (arith, here.inside, c.requires.limit))

pub scalar_of_element-returns-in_err-inner : goal.scalar_of_element-returns-in_err-inner
scalar_of_element-returns-in_err-inner t c =
    let here = on_element_of c.args.bounds.now (description_view c.args.element.now) c.from-byte.result c.args.size c.far_size.result c.from.result
    c.next_multiple_of-stride.result c.requires.limit c.requires.size c.if-byte-size.false c.far_size.ensures
    (c.from.ensures ∙ c.alignment.ensures.value) c.next_multiple_of-stride.ensures.value in
    rw c.from_residual.ensures (ap (option_map (moved (c.from-byte.result / c.next_multiple_of-stride.result * c.next_multiple_of-stride.result))) c.in_err-inner.ensures ∙ sym here.there
    ∙ ap (λ n. scalar_on n (scalars_at (tree.Array c.args.bounds.now (description_view c.args.element.now)))) c.from-byte.ensures)

pub scalar_of_element-nonzero_div-before : goal.scalar_of_element-nonzero_div-before
scalar_of_element-nonzero_div-before t c =
    let here = on_element_of c.args.bounds.now (description_view c.args.element.now) c.from-byte.result c.args.size c.far_size.result c.from.result
    c.next_multiple_of-stride.result c.requires.limit c.requires.size c.if-byte-size.false c.far_size.ensures
    (c.from.ensures ∙ c.alignment.ensures.value) c.next_multiple_of-stride.ensures.value in
    here.some

pub scalar_of_element-overflow_mul-before : goal.scalar_of_element-overflow_mul-before
scalar_of_element-overflow_mul-before t c =
    let here = on_element_of c.args.bounds.now (description_view c.args.element.now) c.from-byte.result c.args.size c.far_size.result c.from.result
    c.next_multiple_of-stride.result c.requires.limit c.requires.size c.if-byte-size.false c.far_size.ensures
    (c.from.ensures ∙ c.alignment.ensures.value) c.next_multiple_of-stride.ensures.value in
    omega (arith, here.inside, c.requires.limit)

pub scalar_of_element-overflow_cast-result : goal.scalar_of_element-overflow_cast-result
scalar_of_element-overflow_cast-result t c =
    let here = on_element_of c.args.bounds.now (description_view c.args.element.now) c.from-byte.result c.args.size c.far_size.result c.from.result
    c.next_multiple_of-stride.result c.requires.limit c.requires.size c.if-byte-size.false c.far_size.ensures
    (c.from.ensures ∙ c.alignment.ensures.value) c.next_multiple_of-stride.ensures.value in
    omega (arith, here.inside, c.requires.limit)

pub scalar_of_element-overflow_add-result : goal.scalar_of_element-overflow_add-result
scalar_of_element-overflow_add-result t c =
    let here = on_element_of c.args.bounds.now (description_view c.args.element.now) c.from-byte.result c.args.size c.far_size.result c.from.result
    c.next_multiple_of-stride.result c.requires.limit c.requires.size c.if-byte-size.false c.far_size.ensures
    (c.from.ensures ∙ c.alignment.ensures.value) c.next_multiple_of-stride.ensures.value in
    omega (arith, here.inside, c.requires.limit, on_within (description_view c.args.element.now) _ (part_view c.in_ok-inner.inner) (sym c.in_ok-inner.ensures))

pub scalar_of_element-returns : goal.scalar_of_element-returns
scalar_of_element-returns t c =
    let here = on_element_of c.args.bounds.now (description_view c.args.element.now) c.from-byte.result c.args.size c.far_size.result c.from.result
    c.next_multiple_of-stride.result c.requires.limit c.requires.size c.if-byte-size.false c.far_size.ensures
    (c.from.ensures ∙ c.alignment.ensures.value) c.next_multiple_of-stride.ensures.value in
    ap (option_map (moved (c.from-byte.result / c.next_multiple_of-stride.result * c.next_multiple_of-stride.result))) c.in_ok-inner.ensures ∙ sym here.there
    ∙ ap (λ n. scalar_on n (scalars_at (tree.Array c.args.bounds.now (description_view c.args.element.now)))) c.from-byte.ensures

-- ---- members

pub scalar_of_member-next_multiple_of-start-requires-clause-fits : goal.scalar_of_member-next_multiple_of-start-requires-clause-fits
scalar_of_member-next_multiple_of-start-requires-clause-fits t c =
    let l = c.loop-member in
    let inside = member_inside c.args.members.now l.member-index c.member-item.result c.loop-member-test.true c.member-item.is l.end c.from.result l.invariant.end
    (c.from.ensures ∙ c.alignment.ensures.value) in
    omega (arith, inside, c.requires)

pub scalar_of_member-returns-then-byte-start : goal.scalar_of_member-returns-then-byte-start
scalar_of_member-returns-then-byte-start t c =
    let l = c.loop-member in
    let there = before_member c.args.members.now l.member-index c.member-item.result c.from-byte.result l.end c.from.result c.next_multiple_of-start.result
    c.loop-member-test.true c.member-item.is (c.from.ensures ∙ c.alignment.ensures.value) c.next_multiple_of-start.ensures.value c.if-byte-start.true in
    sym there ∙ l.invariant.there

pub scalar_of_member-overflow_add-end : goal.scalar_of_member-overflow_add-end
scalar_of_member-overflow_add-end t c =
    let l = c.loop-member in
    let inside = member_inside c.args.members.now l.member-index c.member-item.result c.loop-member-test.true c.member-item.is l.end c.from.result l.invariant.end
    (c.from.ensures ∙ c.alignment.ensures.value) in
    omega (arith, inside, c.requires, c.next_multiple_of-start.ensures.value, c.far_size.ensures)

pub scalar_of_member-scalar_on-requires : goal.scalar_of_member-scalar_on-requires
scalar_of_member-scalar_on-requires t c =
    let l = c.loop-member in
    let inside = member_inside c.args.members.now l.member-index c.member-item.result c.loop-member-test.true c.member-item.is l.end c.from.result l.invariant.end
    (c.from.ensures ∙ c.alignment.ensures.value) in
    (omega (arith, c.decreases, nodes_of_member c.args.members.now l.member-index c.member-item.result c.loop-member-test.true c.member-item.is), omega (arith, inside, c.requires))

pub scalar_of_member-returns-in_err-inner : goal.scalar_of_member-returns-in_err-inner
scalar_of_member-returns-in_err-inner t c =
    let l = c.loop-member in
    let inside = member_inside c.args.members.now l.member-index c.member-item.result c.loop-member-test.true c.member-item.is l.end c.from.result l.invariant.end
    (c.from.ensures ∙ c.alignment.ensures.value) in
    let there = in_this_member c.args.members.now l.member-index c.member-item.result c.from-byte.result l.end c.from.result c.next_multiple_of-start.result
    c.loop-member-test.true c.member-item.is (c.from.ensures ∙ c.alignment.ensures.value) c.next_multiple_of-start.ensures.value c.if-byte-start.false
    (omega (arith, c.if-byte-end.true, c.far_size.ensures, inside, c.requires)) in
    rw c.from_residual.ensures (ap (option_map (moved c.next_multiple_of-start.result)) c.in_err-inner.ensures ∙ sym there ∙ l.invariant.there)

pub scalar_of_member-overflow_cast-result : goal.scalar_of_member-overflow_cast-result
scalar_of_member-overflow_cast-result t c =
    let l = c.loop-member in
    let inside = member_inside c.args.members.now l.member-index c.member-item.result c.loop-member-test.true c.member-item.is l.end c.from.result l.invariant.end
    (c.from.ensures ∙ c.alignment.ensures.value) in
    omega (arith, inside, c.requires, c.next_multiple_of-start.ensures.value)

pub scalar_of_member-overflow_add-result : goal.scalar_of_member-overflow_add-result
scalar_of_member-overflow_add-result t c =
    let l = c.loop-member in
    let inside = member_inside c.args.members.now l.member-index c.member-item.result c.loop-member-test.true c.member-item.is l.end c.from.result l.invariant.end
    (c.from.ensures ∙ c.alignment.ensures.value) in
    omega (arith, inside, c.requires, c.next_multiple_of-start.ensures.value, on_within (description_view c.member-item.result) _ (part_view c.in_ok-inner.inner) (sym c.in_ok-inner.ensures))

pub scalar_of_member-returns-then-byte-end : goal.scalar_of_member-returns-then-byte-end
scalar_of_member-returns-then-byte-end t c =
    let l = c.loop-member in
    let inside = member_inside c.args.members.now l.member-index c.member-item.result c.loop-member-test.true c.member-item.is l.end c.from.result l.invariant.end
    (c.from.ensures ∙ c.alignment.ensures.value) in
    let there = in_this_member c.args.members.now l.member-index c.member-item.result c.from-byte.result l.end c.from.result c.next_multiple_of-start.result
    c.loop-member-test.true c.member-item.is (c.from.ensures ∙ c.alignment.ensures.value) c.next_multiple_of-start.ensures.value c.if-byte-start.false
    (omega (arith, c.if-byte-end.true, c.far_size.ensures, inside, c.requires)) in
    ap (option_map (moved c.next_multiple_of-start.result)) c.in_ok-inner.ensures ∙ sym there ∙ l.invariant.there

pub scalar_of_member-loop-member-preserved : goal.scalar_of_member-loop-member-preserved
scalar_of_member-loop-member-preserved t c =
    let l = c.loop-member in
    let inside = member_inside c.args.members.now l.member-index c.member-item.result c.loop-member-test.true c.member-item.is l.end c.from.result l.invariant.end
    (c.from.ensures ∙ c.alignment.ensures.value) in
    let end = member_end c.args.members.now l.member-index c.member-item.result c.loop-member-test.true c.member-item.is l.end c.from.result l.invariant.end
    (c.from.ensures ∙ c.alignment.ensures.value) in
    let size : c.next_multiple_of-start.result + c.far_size.result ≡ c.next_multiple_of-start.result + size_of (description_view c.member-item.result) = omega (arith, inside, c.requires, c.far_size.ensures) in
    let there = in_later_member c.args.members.now l.member-index c.member-item.result c.from-byte.result l.end c.from.result c.next_multiple_of-start.result
    c.loop-member-test.true c.member-item.is (c.from.ensures ∙ c.alignment.ensures.value) c.next_multiple_of-start.ensures.value
    (c.next_multiple_of-start.result + c.far_size.result) size c.if-byte-end.false in
    record {
      there = sym there ∙ l.invariant.there;
      end = omega (arith, end, inside, c.requires, c.next_multiple_of-start.ensures.value, c.far_size.ensures);
    }
