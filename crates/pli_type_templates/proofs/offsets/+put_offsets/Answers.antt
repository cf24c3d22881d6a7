use Rattle.std.proofs.Common.{◌+◌, ◌-◌, ◌++◌, take, length, ap, sym, ◌∙◌, arith}
use Rattle.std.specs.List.{flat_map}
use Rattle.std.proofs.lemmas.List.{length-take}
use Rattle.pli_type_rules.specs.InitialScalars.{counted_from}
use Rattle.pli_type_templates.specs.Plans.{spread}
use Rattle.pli_type_templates.proofs.OffsetsMade.{one_more, step_left, none_left, none_more}
use Rattle.pli_type_templates.proofs.StoredPlans.{reach_more}
use Rattle.pli_type_templates.proofs.offsets.+put_offsets.Goals as goal

pub overflow_add-at : goal.overflow_add-at
overflow_add-at t c =
    let l = c.loop-passed in
    let level = c.in-Some.level.now in
    omega (arith, reach_more l.at level.distance level.count l._passed 4294967295 c.loop-passed-test.true l.invariant.reach)

pub loop-passed-preserved : goal.loop-passed-preserved
loop-passed-preserved t c =
    let l = c.loop-passed in
    let level = c.in-Some.level.now in
    let f = spread c.in-Some.inner.now in
    let left = step_left f l.at level.distance level.count l._passed c.loop-passed-test.true in
    let more = flat_map f (counted_from (l.at + level.distance) level.distance (level.count - (l._passed + 1))) in
    let made = c.put_offsets.new.offsets.items in
    let counted = ap length c.in_ok-put_offsets.ensures in
    record {
      whole = one_more c.args.wanted l.offsets.items made (f l.at) more _ c.in_ok-put_offsets.ensures
          (ap (λ ns. take c.args.wanted (l.offsets.items ++ ns)) (sym left) ∙ l.invariant.whole);
      room = omega (arith, counted, length-take c.args.wanted (l.offsets.items ++ f l.at));
      reach = reach_more l.at level.distance level.count l._passed 4294967295 c.loop-passed-test.true l.invariant.reach;
    }

pub returns : goal.returns
returns t c =
    let l = c.loop-passed in
    let level = c.in-Some.level.now in
    let f = spread c.in-Some.inner.now in
    let left = none_left f l.at level.distance level.count l._passed c.loop-passed-test.false in
    sym (none_more c.args.wanted l.offsets.items _ l.invariant.room left) ∙ l.invariant.whole
