use Rattle.std.proofs.Common.{◌≡◌, ◌+◌, ◌*◌, ◌-◌, drop, map, refl, ap, sym, ◌∙◌, arith, rules}
use Rattle.std.specs.Int.{next_multiple_of}
use Rattle.std.proofs.lemmas.List.{drop_all, map_push}
use Rattle.pli_map.specs.Sizes.{alignment_of, count_of, end_after, size_of, stride_of}
use Rattle.pli_map.specs.views.DescriptionView.{description_view, members_view}
use Rattle.pli_map.proofs.Members.{next_member}
use Rattle.pli_bytes.proofs.LaidPlaces.{nodes_of_member}
use Rattle.pli_type_templates.specs.Plans.{OfArray, OfStructure, PlanThen, plan_from, plans_from}
use Rattle.pli_type_templates.specs.declared.plan.ArrayLevel.{ArrayLevel}
use Rattle.pli_type_templates.specs.views.PlanView.{plan_view}
use Rattle.pli_type_templates.proofs.PlansMade.{array_view, before, before_more, before_none, structure_view}
use Rattle.pli_type_templates.proofs.StoredPlans.{array_fits, member_plain, member_room, members_counted, members_stored}
use Rattle.pli_type_templates.proofs.plan.+plan_from.Goals as goal

pub array_from-count_of-count-requires-clause-few : goal.array_from-count_of-count-requires-clause-few
array_from-count_of-count-requires-clause-few t c =
    (array_fits c.args.bounds.now (description_view c.args.element.now) c.args.first c.requires.elements c.requires.plain c.requires.room).few

pub array_from-plan_from-requires : goal.array_from-plan_from-requires
array_from-plan_from-requires t c =
    let fits = array_fits c.args.bounds.now (description_view c.args.element.now) c.args.first c.requires.elements c.requires.plain c.requires.room in
    (omega (arith, c.decreases), (c.requires.plain, fits.element))

pub array_from-returns : goal.array_from-returns
array_from-returns t c =
    let first = c.args.first in
    let d = description_view c.args.element.now in
    let all = count_of c.args.bounds.now in
    let planned = c.in_ok-planned.planned in
    let count = c.count_of-count.result in
    let distance = c.aligned-distance.result in
    let element = c.in_ok-element.element in
    let level : ArrayLevel = record { count = count; distance = distance } in
    let counted : count ≡ all = c.count_of-count.ensures in
    let sized : planned.end - first ≡ size_of d = omega (arith, c.in_ok-planned.ensures.1) in
    let apart : distance ≡ stride_of d = c.aligned-distance.ensures ∙ ap (λ n. next_multiple_of n (alignment_of d)) sized in
    let bytes : count * distance ≡ all * stride_of d = ap (λ n. n * distance) counted ∙ ap (λ n. all * n) apart in
    let kept : element.value ≡ planned.plan = search rules in (
      array_view _ level element refl
          ∙ ap (λ p. OfArray level p) (ap plan_view kept ∙ c.in_ok-planned.ensures.0)
          ∙ ap (λ n. OfArray (record { count = n; distance = distance }) (plan_from first d)) counted
          ∙ ap (λ n. OfArray (record { count = all; distance = n }) (plan_from first d)) apart,
      ap (λ n. first + n) bytes,
    )

pub members_from-aligned-requires : goal.members_from-aligned-requires
members_from-aligned-requires t c =
    let l = c.loop-member in
    let room = member_room c.args.members.now l.member-index c.member-item.result (l.end - c.args.first) _ c.loop-member-test.true c.member-item.is l.invariant.end in
    omega (arith, room, c.requires.room)

pub members_from-overflow_add-at : goal.members_from-overflow_add-at
members_from-overflow_add-at t c =
    let l = c.loop-member in
    let room = member_room c.args.members.now l.member-index c.member-item.result (l.end - c.args.first) _ c.loop-member-test.true c.member-item.is l.invariant.end in
    omega (arith, room, c.requires.room, c.aligned.ensures)

pub members_from-plan_from-requires : goal.members_from-plan_from-requires
members_from-plan_from-requires t c =
    let l = c.loop-member in
    let within = c.loop-member-test.true in
    let room = member_room c.args.members.now l.member-index c.member-item.result (l.end - c.args.first) _ within c.member-item.is l.invariant.end in (
      omega (arith, c.decreases, nodes_of_member c.args.members.now l.member-index c.member-item.result within c.member-item.is),
      (
        (member_plain c.args.members.now l.member-index c.member-item.result within c.member-item.is l.invariant.plain).0,
        omega (arith, room, c.requires.room, c.aligned.ensures),
      ),
    )

pub plan_from-members_from-requires : goal.plan_from-members_from-requires
plan_from-members_from-requires t c =
    let d = c.args.description.now in
    let v = c.in-Structure.members in
    let xs = c.deref-in-Structure.result.now in
    let there = c.deref-in-Structure.ensures.value in (
      omega (arith, c.decreases, members_counted d v xs c.in-Structure.is there),
      members_stored d v xs c.args.first c.in-Structure.is there c.requires.plain c.requires.room,
    )

pub members_from-loop-member-preserved : goal.members_from-loop-member-preserved
members_from-loop-member-preserved t c =
    let l = c.loop-member in
    let first = c.args.first in
    let d = description_view c.member-item.result in
    let left = next_member c.args.members.now l.member-index c.member-item.result c.loop-member-test.true c.member-item.is in
    let rest = members_view (drop (l.member-index + 1) c.args.members.now) in
    let planned = c.in_ok-planned.planned in
    let ones = map plan_view l.plans.items in
    let start = next_multiple_of (l.end - first) (alignment_of d) in
    let at : first + c.aligned.result ≡ first + start = ap (λ n. first + n) c.aligned.ensures in
    let ended : planned.end - first ≡ start + size_of d = omega (arith, c.in_ok-planned.ensures.1, at) in
    record {
      plans = ap (λ ps. before (map plan_view ps) (plans_from first (planned.end - first) rest)) c.in_ok-push.ensures.items
          ∙ ap (λ ps. before ps (plans_from first (planned.end - first) rest)) (map_push plan_view l.plans.items planned.plan)
          ∙ before_more ones (plan_view planned.plan) (plans_from first (planned.end - first) rest)
          ∙ ap (λ p. before ones (PlanThen p (plans_from first (planned.end - first) rest))) (c.in_ok-planned.ensures.0 ∙ ap (λ n. plan_from n d) at)
          ∙ ap (λ n. before ones (PlanThen (plan_from (first + start) d) (plans_from first n rest))) ended
          ∙ ap (λ ds. before ones (plans_from first (l.end - first) ds)) (sym left)
          ∙ l.invariant.plans;
      end = ap (λ n. end_after n rest) ended ∙ ap (end_after (l.end - first)) (sym left) ∙ l.invariant.end;
      from = omega (arith, c.in_ok-planned.ensures.1, at);
      plain = (member_plain c.args.members.now l.member-index c.member-item.result c.loop-member-test.true c.member-item.is l.invariant.plain).1;
    }

pub members_from-returns : goal.members_from-returns
members_from-returns t c =
    let l = c.loop-member in
    let first = c.args.first in
    let none = drop_all l.member-index c.args.members.now c.loop-member-test.false in
    let plans = ap (λ ds. before (map plan_view l.plans.items) (plans_from first (l.end - first) (members_view ds))) none in
    let ends = ap (λ ds. end_after (l.end - first) (members_view ds)) none in (
      structure_view _ l.plans refl ∙ ap OfStructure (sym (before_none (map plan_view l.plans.items)) ∙ sym plans ∙ l.invariant.plans),
      omega (arith, ends, l.invariant.end, l.invariant.from),
    )
