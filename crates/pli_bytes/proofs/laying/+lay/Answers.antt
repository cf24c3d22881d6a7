use Rattle.std.proofs.Common.{◌≡◌, ◌+◌, ◌*◌, ◌<◌, MatchOption, length, map, take, refl, sym, ap, ◌∙◌, subst, arith}
use Rattle.std.proofs.lemmas.List.{length-map, take_all}
use Rattle.pli_map.specs.Description as tree
use Rattle.pli_map.specs.Scalars.{scalars_in, scalars_of}
use Rattle.pli_map.specs.Sizes.{count_of}
use Rattle.pli_map.specs.views.DescriptionView.{description_view, members_view}
use Rattle.pli_value.specs.Value.{value_view}
use Rattle.pli_bytes.specs.answers.Laying.{LaidFront, NoneTaken}
use Rattle.pli_bytes.proofs.DescriptionTrees.{area_view, array_view, structure_view}
use Rattle.pli_bytes.proofs.LaidFronts.{all_elements, front_element, front_member, no_elements, no_members, none_in_element, none_in_member, no_scalars, too_few}
use Rattle.pli_bytes.proofs.LaidPlaces.{element_placed, elements_counted, member_end, member_inside, member_start, nodes_of_member}
use Rattle.pli_bytes.proofs.Scalars.{scalars_counted}
use Rattle.pli_bytes.proofs.laying.+lay.Goals as goal

pub lay_at-returns-in-Array : goal.lay_at-returns-in-Array
lay_at-returns-in-Array t c =
    let vs = map value_view c.args.values.now in
    let bounds = c.deref.result.now in
    let element = description_view c.deref-in-Array.result.now in
    let is : description_view c.args.description.now ≡ tree.Array bounds element =
    array_view c.args.description.now c.in-Array.bounds c.in-Array.element c.in-Array.is
    ∙ ap (λ bs. tree.Array bs (description_view c.in-Array.element.value)) (sym c.deref.ensures.value)
    ∙ ap (λ e. tree.Array bounds (description_view e)) (sym c.deref-in-Array.ensures) in
    subst (λ (d : tree.Description). MatchOption c.lay_elements.result (NoneTaken (scalars_of d) vs)
    (λ left. LaidFront c.args.at d vs (map value_view left.now) c.args.bytes.now c.lay_elements.new.bytes)) (sym is) c.lay_elements.ensures

pub lay_at-returns-in-Structure : goal.lay_at-returns-in-Structure
lay_at-returns-in-Structure t c =
    let vs = map value_view c.args.values.now in
    let is : description_view c.args.description.now ≡ tree.Structure (members_view c.deref-in-Structure.result.now) =
    structure_view c.args.description.now c.in-Structure.members c.in-Structure.is
    ∙ ap (λ ms. tree.Structure (members_view ms)) (sym c.deref-in-Structure.ensures.value) in
    subst (λ (d : tree.Description). MatchOption c.lay_members.result (NoneTaken (scalars_of d) vs)
    (λ left. LaidFront c.args.at d vs (map value_view left.now) c.args.bytes.now c.lay_members.new.bytes)) (sym is) c.lay_members.ensures

-- ---- elements

pub lay_elements-returns-then-scalars-eq0 : goal.lay_elements-returns-then-scalars-eq0
lay_elements-returns-then-scalars-eq0 t c =
    let d = tree.Array c.args.bounds.now (description_view c.args.element.now) in
    no_scalars c.args.at d (map value_view c.args.values.now) c.args.bytes.now (omega (arith, c.requires.scalars))

pub lay_elements-returns-then-scalars-values : goal.lay_elements-returns-then-scalars-values
lay_elements-returns-then-scalars-values t c =
    let d = tree.Array c.args.bounds.now (description_view c.args.element.now) in
    let values : length (map value_view c.args.values.now) ≡ length c.args.values.now = length-map c.args.values.now value_view in
    too_few (scalars_of d) (map value_view c.args.values.now) (omega (arith, c.if-scalars-values.true, c.requires.scalars, values, scalars_counted d))

pub lay_elements-overflow_mul-made : goal.lay_elements-overflow_mul-made
lay_elements-overflow_mul-made t c =
    let place = element_placed (description_view c.args.element.now) (count_of c.args.bounds.now) c.loop-made.made c.args.scalars c.scalars_in.result c.far_size.result c.from.result
    c.next_multiple_of-stride.result c.requires.limit (omega arith) (omega arith) c.requires.scalars c.scalars_in.ensures c.loop-made-test.true c.far_size.ensures
    (c.from.ensures ∙ c.alignment.ensures.value) c.next_multiple_of-stride.ensures.value in
    omega (arith, place.inside, c.requires.limit)

pub lay_elements-overflow_add-at : goal.lay_elements-overflow_add-at
lay_elements-overflow_add-at t c =
    let place = element_placed (description_view c.args.element.now) (count_of c.args.bounds.now) c.loop-made.made c.args.scalars c.scalars_in.result c.far_size.result c.from.result
    c.next_multiple_of-stride.result c.requires.limit (omega arith) (omega arith) c.requires.scalars c.scalars_in.ensures c.loop-made-test.true c.far_size.ensures
    (c.from.ensures ∙ c.alignment.ensures.value) c.next_multiple_of-stride.ensures.value in
    omega (arith, place.inside, c.requires.within)

pub lay_elements-lay_at-requires : goal.lay_elements-lay_at-requires
lay_elements-lay_at-requires t c =
    let place = element_placed (description_view c.args.element.now) (count_of c.args.bounds.now) c.loop-made.made c.args.scalars c.scalars_in.result c.far_size.result c.from.result
    c.next_multiple_of-stride.result c.requires.limit (omega arith) (omega arith) c.requires.scalars c.scalars_in.ensures c.loop-made-test.true c.far_size.ensures
    (c.from.ensures ∙ c.alignment.ensures.value) c.next_multiple_of-stride.ensures.value in
    (omega (arith, c.decreases), (omega (arith, place.inside, c.requires.within, c.loop-made.auto.bytes), omega (arith, place.inside, c.requires.limit)))

pub lay_elements-returns-in_err-left : goal.lay_elements-returns-in_err-left
lay_elements-returns-in_err-left t c =
    let place = element_placed (description_view c.args.element.now) (count_of c.args.bounds.now) c.loop-made.made c.args.scalars c.scalars_in.result c.far_size.result c.from.result
    c.next_multiple_of-stride.result c.requires.limit (omega arith) (omega arith) c.requires.scalars c.scalars_in.ensures c.loop-made-test.true c.far_size.ensures
    (c.from.ensures ∙ c.alignment.ensures.value) c.next_multiple_of-stride.ensures.value in
    rw c.from_residual.ensures (none_in_element c.args.at (description_view c.args.element.now) c.loop-made.made (count_of c.args.bounds.now) (map value_view c.args.values.now)
    (map value_view c.loop-made.left.now) c.args.bytes.now c.loop-made.bytes place.below c.loop-made.invariant c.in_err-left.ensures)

pub lay_elements-loop-made-init : goal.lay_elements-loop-made-init
lay_elements-loop-made-init t c = no_elements c.args.at (description_view c.args.element.now) (map value_view c.args.values.now) c.args.bytes.now

pub lay_elements-loop-made-preserved : goal.lay_elements-loop-made-preserved
lay_elements-loop-made-preserved t c =
    let e = description_view c.args.element.now in
    let left = map value_view c.loop-made.left.now in
    let rest = map value_view c.in_ok-left.left.now in
    let place = element_placed (description_view c.args.element.now) (count_of c.args.bounds.now) c.loop-made.made c.args.scalars c.scalars_in.result c.far_size.result c.from.result
    c.next_multiple_of-stride.result c.requires.limit (omega arith) (omega arith) c.requires.scalars c.scalars_in.ensures c.loop-made-test.true c.far_size.ensures
    (c.from.ensures ∙ c.alignment.ensures.value) c.next_multiple_of-stride.ensures.value in
    front_element c.args.at e c.loop-made.made (map value_view c.args.values.now) left rest c.args.bytes.now c.loop-made.bytes c.lay_at.new.bytes c.loop-made.invariant
    (subst (λ n. LaidFront (c.args.at + c.loop-made.made * n) e left rest c.loop-made.bytes c.lay_at.new.bytes) place.stride_is c.in_ok-left.ensures)

pub lay_elements-returns : goal.lay_elements-returns
lay_elements-returns t c =
    let e = description_view c.args.element.now in
    let few : c.args.scalars < 18446744073709551615 = omega arith in
    let all = elements_counted c.args.scalars c.scalars_in.result (count_of c.args.bounds.now) (scalars_in e) 18446744073709551615 (omega arith) few c.requires.scalars c.scalars_in.ensures in
    all_elements c.args.at c.args.bounds.now (description_view c.args.element.now) c.loop-made.made (map value_view c.args.values.now) (map value_view c.loop-made.left.now)
    c.args.bytes.now c.loop-made.bytes (omega (arith, all.0, c.loop-made-test.false, c.loop-made.auto.made-end)) c.loop-made.invariant

-- ---- members

pub lay_members-loop-member-init : goal.lay_members-loop-member-init
lay_members-loop-member-init t c = record { front = no_members c.args.at (map value_view c.args.values.now) c.args.bytes.now; end = refl }

pub lay_members-next_multiple_of-start-requires-clause-fits : goal.lay_members-next_multiple_of-start-requires-clause-fits
lay_members-next_multiple_of-start-requires-clause-fits t c =
    let l = c.loop-member in
    let inside = member_inside c.args.members.now l.member-index c.member-item.result c.loop-member-test.true c.member-item.is l.end c.from.result l.invariant.end
    (c.from.ensures ∙ c.alignment.ensures.value) in
    omega (arith, inside, c.requires.limit)

pub lay_members-overflow_add-at : goal.lay_members-overflow_add-at
lay_members-overflow_add-at t c =
    let l = c.loop-member in
    let inside = member_inside c.args.members.now l.member-index c.member-item.result c.loop-member-test.true c.member-item.is l.end c.from.result l.invariant.end
    (c.from.ensures ∙ c.alignment.ensures.value) in
    omega (arith, inside, c.requires.within, c.next_multiple_of-start.ensures.value)

pub lay_members-lay_at-requires : goal.lay_members-lay_at-requires
lay_members-lay_at-requires t c =
    let l = c.loop-member in
    let x = c.member-item.result in
    let inside = member_inside c.args.members.now l.member-index x c.loop-member-test.true c.member-item.is l.end c.from.result l.invariant.end
    (c.from.ensures ∙ c.alignment.ensures.value) in (
      omega (arith, c.decreases, nodes_of_member c.args.members.now l.member-index x c.loop-member-test.true c.member-item.is),
      (omega (arith, inside, c.requires.within, c.next_multiple_of-start.ensures.value, l.auto.bytes), omega (arith, inside, c.requires.limit)),
    )

pub lay_members-returns-in_err-left : goal.lay_members-returns-in_err-left
lay_members-returns-in_err-left t c =
    let l = c.loop-member in
    rw c.from_residual.ensures (none_in_member c.args.at c.args.members.now l.member-index c.member-item.result (map value_view c.args.values.now) (map value_view l.left.now)
    c.args.bytes.now l.bytes c.loop-member-test.true c.member-item.is l.invariant.front c.in_err-left.ensures)

pub lay_members-overflow_add-end : goal.lay_members-overflow_add-end
lay_members-overflow_add-end t c =
    let l = c.loop-member in
    let inside = member_inside c.args.members.now l.member-index c.member-item.result c.loop-member-test.true c.member-item.is l.end c.from.result l.invariant.end
    (c.from.ensures ∙ c.alignment.ensures.value) in
    omega (arith, inside, c.requires.limit, c.next_multiple_of-start.ensures.value, c.far_size.ensures)

pub lay_members-loop-member-preserved : goal.lay_members-loop-member-preserved
lay_members-loop-member-preserved t c =
    let l = c.loop-member in
    let x = c.member-item.result in
    let within = c.loop-member-test.true in
    let alignment = c.from.ensures ∙ c.alignment.ensures.value in
    let start = member_start c.args.members.now l.member-index x within c.member-item.is l.end c.from.result l.invariant.end alignment in
    let end = member_end c.args.members.now l.member-index x within c.member-item.is l.end c.from.result l.invariant.end alignment in
    let inside = member_inside c.args.members.now l.member-index x within c.member-item.is l.end c.from.result l.invariant.end alignment in
    record {
      front = front_member c.args.at c.args.members.now l.member-index x (map value_view c.args.values.now) (map value_view l.left.now) c.args.bytes.now l.bytes
          within c.member-item.is l.invariant.front c.next_multiple_of-start.result (map value_view c.in_ok-left.left.now) c.lay_at.new.bytes
          (c.next_multiple_of-start.ensures.value ∙ start) c.in_ok-left.ensures;
      end = omega (arith, end, inside, c.requires.limit, c.next_multiple_of-start.ensures.value, c.far_size.ensures);
    }

pub lay_members-returns : goal.lay_members-returns
lay_members-returns t c =
    let l = c.loop-member in
    let all : take l.member-index c.args.members.now ≡ c.args.members.now = take_all l.member-index c.args.members.now c.loop-member-test.false in
    subst (λ ms. LaidFront c.args.at (tree.Structure (members_view ms)) (map value_view c.args.values.now) (map value_view l.left.now) c.args.bytes.now l.bytes) all l.invariant.front

-- ---- areas

pub lay_at-returns-in-Area : goal.lay_at-returns-in-Area
lay_at-returns-in-Area t c =
    let d = description_view c.args.description.now in
    let none : scalars_in d ≡ 0 = ap scalars_in (area_view c.args.description.now c.in-Area.field-0 c.in-Area.is) in
    no_scalars c.args.at d (map value_view c.args.values.now) c.args.bytes.now none
