use Rattle.std.proofs.Common.{◌+◌, ◌/◌, ◌∙◌, Some, None, max, set, true, length, ap, sym, subst, arith}
use Rattle.pli_holes.specs.Holes.{Spells, taken}
use Rattle.pli_area.specs.Areas.{IsAdded, holes_from}
use Rattle.pli_area.specs.Held.{IsHeld}
use Rattle.pli_area.specs.views.AreaView.{blocks_from}
use Rattle.pli_area.proofs.FirstFits.{hole_start}
use Rattle.pli_area.proofs.Allocations.{allocated_added, allocated_count, allocated_held, fit_at, full_held, full_of, held_area, least_of, mark_inside, room_for_one, start_below}
use Rattle.pli_area.proofs.area.Area.allocate.Goals as goal

pub take-taken-requires-clause-chain : goal.take-taken-requires-clause-chain
take-taken-requires-clause-chain c = record { holes = holes_from 0 (length c.self.inside.region) (blocks_from c.self.inside.region 0 c.self.inside.marks); spelled = c.self.invariant.spelled }

pub take-taken-requires-clause-aligned : goal.take-taken-requires-clause-aligned
take-taken-requires-clause-aligned c = omega (arith, c.room_of-room.ensures)

pub invariant_of-self : goal.invariant_of-self
invariant_of-self c =
    let f = c.self.inside in
    let held = c.self.invariant in
    let holes = holes_from 0 (length f.region) (blocks_from f.region 0 f.marks) in
    let none = c.take-taken.ensures.place holes held.spelled ∙ c.in_default.is in
    let same = rw c.in_default.is at c.take-taken.ensures.unchanged in
    full_held held c.room_of-room.result c.take-taken.new.region c.take-taken.new.self.first none same (c.take-taken.ensures.spelled holes held.spelled)

pub returns-in_default-clause-full : goal.returns-in_default-clause-full
returns-in_default-clause-full c =
    let f = c.self.inside in
    let held = c.self.invariant in
    let holes = holes_from 0 (length f.region) (blocks_from f.region 0 f.marks) in
    let none = c.take-taken.ensures.place holes held.spelled ∙ c.in_default.is in
    let all = ap (λ n. hole_start n holes) (sym c.room_of-room.ensures) ∙ none in
    rw (← c.self.view_is) (full_of (record { capacity = length f.region; blocks = blocks_from f.region 0 f.marks; visited = f.visited }) c.args.size (held_area held) (fit_at (record { capacity = length f.region; blocks = blocks_from f.region 0 f.marks; visited = f.visited }) c.args.size None all))

pub put_header-requires-clause-inside : goal.put_header-requires-clause-inside
put_header-requires-clause-inside c =
    let f = c.self.inside in
    let held = c.self.invariant in
    let holes = holes_from 0 (length f.region) (blocks_from f.region 0 f.marks) in
    let fits = ap (λ n. hole_start n holes) (sym c.room_of-room.ensures) ∙ c.take-taken.ensures.place holes held.spelled ∙ c.in-Some.is in
    let below = start_below held c.args.description c.args.size c.in-Some.start fits in
    let count = (c.take-taken.ensures.kept holes held.spelled).count in
    omega (arith, below, count)

pub set-requires : goal.set-requires
set-requires c =
    let f = c.self.inside in
    let held = c.self.invariant in
    let holes = holes_from 0 (length f.region) (blocks_from f.region 0 f.marks) in
    let fits = ap (λ n. hole_start n holes) (sym c.room_of-room.ensures) ∙ c.take-taken.ensures.place holes held.spelled ∙ c.in-Some.is in
    mark_inside held c.args.description c.args.size c.in-Some.start fits

pub overflow_cast-start-3 : goal.overflow_cast-start-3
overflow_cast-start-3 c =
    let f = c.self.inside in
    let held = c.self.invariant in
    let holes = holes_from 0 (length f.region) (blocks_from f.region 0 f.marks) in
    let fits = ap (λ n. hole_start n holes) (sym c.room_of-room.ensures) ∙ c.take-taken.ensures.place holes held.spelled ∙ c.in-Some.is in
    let below = start_below held c.args.description c.args.size c.in-Some.start fits in
    omega (arith, below, c.room_of-room.ensures, held.small)

pub overflow_add-self : goal.overflow_add-self
overflow_add-self c =
    let f = c.self.inside in
    let held = c.self.invariant in
    let holes = holes_from 0 (length f.region) (blocks_from f.region 0 f.marks) in
    let fits = ap (λ n. hole_start n holes) (sym c.room_of-room.ensures) ∙ c.take-taken.ensures.place holes held.spelled ∙ c.in-Some.is in
    let room = room_for_one held c.args.description c.args.size c.in-Some.start fits in
    omega (arith, room, held.small)

pub invariant_of-self-2 : goal.invariant_of-self-2
invariant_of-self-2 c =
    let f = c.self.inside in
    let held = c.self.invariant in
    let holes = holes_from 0 (length f.region) (blocks_from f.region 0 f.marks) in
    let fits = ap (λ n. hole_start n holes) (sym c.room_of-room.ensures) ∙ c.take-taken.ensures.place holes held.spelled ∙ c.in-Some.is in
    let spelled = subst (λ n. Spells c.take-taken.new.region c.take-taken.new.self.first (taken n holes)) c.room_of-room.ensures (c.take-taken.ensures.spelled holes held.spelled) in
    let kept = allocated_held held c.args.description c.args.size c.in-Some.start fits c.take-taken.new.region c.put_header.new.region c.take-taken.new.self.first (c.take-taken.ensures.kept holes held.spelled) c.put_header.ensures (omega (arith, c.ranges.description.fits)) (omega (arith, c.ranges.size.fits)) spelled in
    let end = c.max-self-inside.ensures ∙ ap (λ n. max f.extent (c.in-Some.start + n)) c.room_of-room.ensures in
    subst (λ marks. IsHeld c.put_header.new.region marks c.take-taken.new.self.first c.max-self-inside.result (f.count + 1)) (sym c.set.ensures)
    (subst (λ n. IsHeld c.put_header.new.region (set f.marks (c.in-Some.start / 8) true) c.take-taken.new.self.first n (f.count + 1)) (sym end) kept)

pub returns-clause-least : goal.returns-clause-least
returns-clause-least c =
    let f = c.self.inside in
    let held = c.self.invariant in
    let holes = holes_from 0 (length f.region) (blocks_from f.region 0 f.marks) in
    let fits = ap (λ n. hole_start n holes) (sym c.room_of-room.ensures) ∙ c.take-taken.ensures.place holes held.spelled ∙ c.in-Some.is in
    rw (← c.self.view_is) (least_of (record { capacity = length f.region; blocks = blocks_from f.region 0 f.marks; visited = f.visited }) c.args.size (c.in-Some.start + 8) (held_area held) (fit_at (record { capacity = length f.region; blocks = blocks_from f.region 0 f.marks; visited = f.visited }) c.args.size (Some c.in-Some.start) fits))

pub returns-clause-added : goal.returns-clause-added
returns-clause-added c =
    let f = c.self.inside in
    let held = c.self.invariant in
    let holes = holes_from 0 (length f.region) (blocks_from f.region 0 f.marks) in
    let fits = ap (λ n. hole_start n holes) (sym c.room_of-room.ensures) ∙ c.take-taken.ensures.place holes held.spelled ∙ c.in-Some.is in
    let added = allocated_added held c.args.description c.args.size c.in-Some.start fits c.take-taken.new.region c.put_header.new.region c.take-taken.new.self.first (c.take-taken.ensures.kept holes held.spelled) c.put_header.ensures (omega (arith, c.ranges.description.fits)) (omega (arith, c.ranges.size.fits)) in
    rw (← c.self.view_is) (subst (λ marks. IsAdded (blocks_from f.region 0 f.marks) (blocks_from c.put_header.new.region 0 marks) (c.in-Some.start + 8) c.args.description c.args.size) (sym c.set.ensures) added)

pub returns-clause-capacity : goal.returns-clause-capacity
returns-clause-capacity c =
    let f = c.self.inside in
    let held = c.self.invariant in
    let holes = holes_from 0 (length f.region) (blocks_from f.region 0 f.marks) in
    let fits = ap (λ n. hole_start n holes) (sym c.room_of-room.ensures) ∙ c.take-taken.ensures.place holes held.spelled ∙ c.in-Some.is in
    rw (← c.self.view_is) (allocated_count held c.args.description c.args.size c.in-Some.start fits c.take-taken.new.region c.put_header.new.region c.take-taken.new.self.first (c.take-taken.ensures.kept holes held.spelled) c.put_header.ensures (omega (arith, c.ranges.description.fits)) (omega (arith, c.ranges.size.fits)))
