use Rattle.std.proofs.Common.{◌≡◌, ◌+◌, ◌*◌, ◌/◌, ap, ◌∙◌, subst, arith}
use Rattle.pli_map.specs.Scalars.{scalars_in}
use Rattle.pli_map.specs.Sizes.{count_of, stride_of}
use Rattle.pli_map.specs.Values.{first_values}
use Rattle.pli_map.specs.views.DescriptionView.{description_view}
use Rattle.pli_map.proofs.FarSizes.{cut_stride}
use Rattle.pli_bytes.specs.answers.Laying.{LaidAt}
use Rattle.pli_bytes.proofs.FirstsLaid.{first_array, first_element, first_filled, first_in_place, first_member, first_of_nothing}
use Rattle.pli_bytes.proofs.LaidPlaces.{divided_by_stride, member_end, member_inside, member_start, nodes_of_member, some_factor, whole_stride}
use Rattle.pli_bytes.proofs.beginning.+lay_first.Goals as goal

pub lay_first_at-returns-in-Some : goal.lay_first_at-returns-in-Some
lay_first_at-returns-in-Some t c =
    let d = description_view c.args.description.now in
    first_filled c.args.at d c.in-Some.byte c.far_size-size.result c.args.bytes.now c.fill.new.bytes c.in-Some.ensures c.requires.within
    (omega (arith, c.far_size-size.ensures, c.requires.limit)) c.fill.ensures

pub lay_first_at-returns-then-scalars_in-eq0 : goal.lay_first_at-returns-then-scalars_in-eq0
lay_first_at-returns-then-scalars_in-eq0 t c =
    first_of_nothing c.args.at (description_view c.args.description.now) c.args.bytes.now (omega (arith, c.scalars_in.ensures, c.if-scalars_in-eq0.true))

-- ---- elements

pub lay_first_elements-returns-then-stride-eq0 : goal.lay_first_elements-returns-then-stride-eq0
lay_first_elements-returns-then-stride-eq0 t c =
    let e = description_view c.args.element.now in
    let stride = c.next_multiple_of-stride.ensures.value ∙ cut_stride e c.far_size.result c.from.result c.far_size.ensures (c.from.ensures ∙ c.alignment.ensures.value) in
    first_in_place c.args.at c.args.bounds.now e c.args.bytes.now c.lay_first_at.new.bytes (omega (arith, stride, c.if-stride-eq0.true))
    (some_factor (count_of c.args.bounds.now) (scalars_in e) c.requires.some) c.lay_first_at.ensures

pub lay_first_elements-loop-made-preserved : goal.lay_first_elements-loop-made-preserved
lay_first_elements-loop-made-preserved t c =
    let e = description_view c.args.element.now in
    let count = count_of c.args.bounds.now in
    let stride = whole_stride e count c.far_size.result c.from.result c.next_multiple_of-stride.result (some_factor count (scalars_in e) c.requires.some)
    (omega (arith, c.requires.limit, c.requires.size)) c.far_size.ensures (c.from.ensures ∙ c.alignment.ensures.value) c.next_multiple_of-stride.ensures.value in
    first_element c.args.at e c.loop-made.made c.args.bytes.now c.loop-made.bytes c.lay_first_at-in-loop-made.new.bytes c.loop-made.invariant
    (subst (λ n. LaidAt (c.args.at + c.loop-made.made * n) e (first_values e) c.loop-made.bytes c.lay_first_at-in-loop-made.new.bytes) stride c.lay_first_at-in-loop-made.ensures)

pub lay_first_elements-returns : goal.lay_first_elements-returns
lay_first_elements-returns t c =
    let e = description_view c.args.element.now in
    let count = count_of c.args.bounds.now in
    let stride = whole_stride e count c.far_size.result c.from.result c.next_multiple_of-stride.result (some_factor count (scalars_in e) c.requires.some)
    (omega (arith, c.requires.limit, c.requires.size)) c.far_size.ensures (c.from.ensures ∙ c.alignment.ensures.value) c.next_multiple_of-stride.ensures.value in
    let all : c.args.size / c.next_multiple_of-stride.result ≡ count =
    ap (λ n. c.args.size / n) stride ∙ divided_by_stride c.args.size count (stride_of e) (omega (arith, stride, c.if-stride-eq0.false)) c.requires.size in
    first_array c.args.at c.args.bounds.now e c.loop-made.made c.args.bytes.now c.loop-made.bytes (omega (arith, all, c.loop-made-test.false, c.loop-made.auto.made-end)) c.loop-made.invariant

-- ---- members

pub lay_first_members-next_multiple_of-start-requires-clause-fits : goal.lay_first_members-next_multiple_of-start-requires-clause-fits
lay_first_members-next_multiple_of-start-requires-clause-fits t c =
    let l = c.loop-member in
    let inside = member_inside c.args.members.now l.member-index c.member-item.result c.loop-member-test.true c.member-item.is l.end c.from.result l.invariant.end
    (c.from.ensures ∙ c.alignment.ensures.value) in
    omega (arith, inside, c.requires.limit)

pub lay_first_members-overflow_add-at : goal.lay_first_members-overflow_add-at
lay_first_members-overflow_add-at t c =
    let l = c.loop-member in
    let inside = member_inside c.args.members.now l.member-index c.member-item.result c.loop-member-test.true c.member-item.is l.end c.from.result l.invariant.end
    (c.from.ensures ∙ c.alignment.ensures.value) in
    omega (arith, inside, c.requires.within, c.next_multiple_of-start.ensures.value)

pub lay_first_members-lay_first_at-requires : goal.lay_first_members-lay_first_at-requires
lay_first_members-lay_first_at-requires t c =
    let l = c.loop-member in
    let inside = member_inside c.args.members.now l.member-index c.member-item.result c.loop-member-test.true c.member-item.is l.end c.from.result l.invariant.end
    (c.from.ensures ∙ c.alignment.ensures.value) in (
      omega (arith, c.decreases, nodes_of_member c.args.members.now l.member-index c.member-item.result c.loop-member-test.true c.member-item.is),
      (omega (arith, inside, c.requires.within, c.next_multiple_of-start.ensures.value, l.auto.bytes), omega (arith, inside, c.requires.limit)),
    )

pub lay_first_members-overflow_add-end : goal.lay_first_members-overflow_add-end
lay_first_members-overflow_add-end t c =
    let l = c.loop-member in
    let inside = member_inside c.args.members.now l.member-index c.member-item.result c.loop-member-test.true c.member-item.is l.end c.from.result l.invariant.end
    (c.from.ensures ∙ c.alignment.ensures.value) in
    omega (arith, inside, c.requires.limit, c.next_multiple_of-start.ensures.value, c.far_size.ensures)

pub lay_first_members-loop-member-preserved : goal.lay_first_members-loop-member-preserved
lay_first_members-loop-member-preserved t c =
    let l = c.loop-member in
    let inside = member_inside c.args.members.now l.member-index c.member-item.result c.loop-member-test.true c.member-item.is l.end c.from.result l.invariant.end
    (c.from.ensures ∙ c.alignment.ensures.value) in
    let start = member_start c.args.members.now l.member-index c.member-item.result c.loop-member-test.true c.member-item.is l.end c.from.result l.invariant.end
    (c.from.ensures ∙ c.alignment.ensures.value) in
    let end = member_end c.args.members.now l.member-index c.member-item.result c.loop-member-test.true c.member-item.is l.end c.from.result l.invariant.end
    (c.from.ensures ∙ c.alignment.ensures.value) in
    record {
      laid = first_member c.args.at c.args.members.now l.member-index c.member-item.result c.loop-member-test.true c.member-item.is c.next_multiple_of-start.result
          c.args.bytes.now l.bytes c.lay_first_at.new.bytes (c.next_multiple_of-start.ensures.value ∙ start) l.invariant.laid c.lay_first_at.ensures;
      end = omega (arith, end, inside, c.requires.limit, c.next_multiple_of-start.ensures.value, c.far_size.ensures);
    }
