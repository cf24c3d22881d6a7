use Rattle.std.proofs.Common.{◌+◌, ◌-◌, ◌/◌, ◌∙◌, set, false, length, ap, refl, sym, subst, arith}
use Rattle.pli_area.specs.Areas.{Hole, holes_from, rounded}
use Rattle.pli_area.specs.Held.{IsHeld}
use Rattle.pli_area.specs.views.AreaView.{blocks_from}
use Rattle.pli_area.proofs.HeldLemmas.{not_marked}
use Rattle.pli_area.proofs.Releases.{live_above, live_below, live_block, live_end, live_in_use, live_mark, released_blocks, released_held, some_block}
use Rattle.pli_area.proofs.area.Area.release.Goals as goal

pub returns-then-not-is_marked-clause-not_live : goal.returns-then-not-is_marked-clause-not_live
returns-then-not-is_marked-clause-not_live c =
    rw (← c.self.view_is) (not_marked c.self.inside.region c.self.inside.marks c.args.position (sym c.is_marked.ensures ∙ c.if-not-is_marked.true))

pub overflow_sub-start : goal.overflow_sub-start
overflow_sub-start c = live_above c.self.invariant c.args.position (sym c.is_marked.ensures ∙ c.if-not-is_marked.false)

pub word-requires : goal.word-requires
word-requires c =
    let live = sym c.is_marked.ensures ∙ c.if-not-is_marked.false in
    let above = live_above c.self.invariant c.args.position live in
    let below = live_below c.self.invariant c.args.position live in
    omega (arith, above, below)

pub overflow_cast-room : goal.overflow_cast-room
overflow_cast-room c =
    let live = sym c.is_marked.ensures ∙ c.if-not-is_marked.false in
    let room = c.room_of-room.ensures ∙ ap (λ n. 8 + rounded n) c.word.ensures in
    let end = live_end c.self.invariant c.args.position live c.room_of-room.result room in
    omega (arith, end, c.self.invariant.small)

pub give_back-hole-requires : goal.give_back-hole-requires
give_back-hole-requires c =
    let live = sym c.is_marked.ensures ∙ c.if-not-is_marked.false in
    let room = c.room_of-room.ensures ∙ ap (λ n. 8 + rounded n) c.word.ensures in
    live_in_use c.self.invariant c.args.position live c.room_of-room.result room

pub set-requires : goal.set-requires
set-requires c = live_mark c.self.invariant c.args.position (sym c.is_marked.ensures ∙ c.if-not-is_marked.false)

pub overflow_add-start-2 : goal.overflow_add-start-2
overflow_add-start-2 c =
    let live = sym c.is_marked.ensures ∙ c.if-not-is_marked.false in
    let room = c.room_of-room.ensures ∙ ap (λ n. 8 + rounded n) c.word.ensures in
    let end = live_end c.self.invariant c.args.position live c.room_of-room.result room in
    omega (arith, end, c.self.invariant.small)

pub overflow_sub-self : goal.overflow_sub-self
overflow_sub-self c = some_block c.self.invariant c.args.position (sym c.is_marked.ensures ∙ c.if-not-is_marked.false)

pub invariant_of-self : goal.invariant_of-self
invariant_of-self c =
    let f = c.self.inside in
    let held = c.self.invariant in
    let live = sym c.is_marked.ensures ∙ c.if-not-is_marked.false in
    let room = c.room_of-room.ensures ∙ ap (λ n. 8 + rounded n) c.word.ensures in
    let holes = holes_from 0 (length f.region) (blocks_from f.region 0 f.marks) in
    let given = c.give_back-hole.ensures in
    let begin = ap (λ (h : Hole). h.start) (given.hole holes held.spelled) in
    let kept = released_held held c.args.position live c.room_of-room.result room c.give_back-hole.new.region (given.kept holes held.spelled) c.give_back-hole.new.self.first c.give_back-hole.result.start (given.spelled holes held.spelled) begin in
    subst (λ marks. IsHeld c.give_back-hole.new.region marks c.give_back-hole.new.self.first c.extent_without-self-inside.result (f.count - 1)) (sym c.set.ensures)
    (subst (λ n. IsHeld c.give_back-hole.new.region (set f.marks ((c.args.position - 8) / 8) false) c.give_back-hole.new.self.first n (f.count - 1)) (sym c.extent_without-self-inside.ensures) kept)

pub returns-clause-live : goal.returns-clause-live
returns-clause-live c =
    let there = live_block c.self.invariant c.args.position (sym c.is_marked.ensures ∙ c.if-not-is_marked.false) in
    rw (← c.self.view_is, there) refl

pub returns-clause-released : goal.returns-clause-released
returns-clause-released c =
    let f = c.self.inside in
    let held = c.self.invariant in
    let live = sym c.is_marked.ensures ∙ c.if-not-is_marked.false in
    let room = c.room_of-room.ensures ∙ ap (λ n. 8 + rounded n) c.word.ensures in
    let holes = holes_from 0 (length f.region) (blocks_from f.region 0 f.marks) in
    rw (← c.self.view_is) (ap (blocks_from c.give_back-hole.new.region 0) c.set.ensures
    ∙ released_blocks held c.args.position live c.room_of-room.result room c.give_back-hole.new.region (c.give_back-hole.ensures.kept holes held.spelled))

pub returns-clause-capacity : goal.returns-clause-capacity
returns-clause-capacity c =
    let f = c.self.inside in
    let holes = holes_from 0 (length f.region) (blocks_from f.region 0 f.marks) in
    rw (← c.self.view_is) (c.give_back-hole.ensures.kept holes c.self.invariant.spelled).count
