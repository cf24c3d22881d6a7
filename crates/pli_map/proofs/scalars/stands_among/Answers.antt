use Rattle.std.proofs.Common.{arith}
use Rattle.pli_map.specs.views.DescriptionView.{description_view, members_view}
use Rattle.pli_map.proofs.Members.{next_member}
use Rattle.pli_map.proofs.ScalarsAmong.{found_among, some_after, some_first}
use Rattle.pli_map.proofs.scalars.stands_among.Goals as goal

-- after a scalar that ends before the offset what is left is looked through
pub loop-member-preserved : goal.loop-member-preserved
loop-member-preserved c =
    let l = c.loop-member in
    let d = description_view c.member-item.result in
    let left = next_member c.args.members.now l.member-index c.member-item.result c.loop-member-test.true c.member-item.is in
    record {
      found = λ e. l.invariant.found
          (some_after l.at d _ _ c.args.offset (description_view c.args.part.now) left _ (omega (arith, c.in-Some.ensures.start, c.in-Some.ensures.end)) e);
      near = omega arith;
    }

-- the scalar that begins there
pub returns-then-wanted-room-2 : goal.returns-then-wanted-room-2
returns-then-wanted-room-2 c = λ e.
    let l = c.loop-member in
    let d = description_view c.member-item.result in
    let left = next_member c.args.members.now l.member-index c.member-item.result c.loop-member-test.true c.member-item.is in
    found_among (members_view c.args.members.now) c.args.offset (description_view c.args.part.now)
    (l.invariant.found (some_first l.at d _ _ c.args.offset (description_view c.args.part.now) left (omega (arith, c.in-Some.ensures.start)) (omega (arith, c.in-Some.ensures.start, c.in-Some.ensures.end))
    (c.are_same_scalars.ensures e)))
