use Rattle.std.proofs.Common.{arith, ◌+◌, ℕ, Some, length, subst, sym}
use Rattle.pli_region.specs.Words.{word_at}
use Rattle.pli_holes.specs.Steps.{HasPassed}
use Rattle.pli_holes.proofs.WalkLemmas.{passed_none, passed_more, stopped_before, stopped_at, is_reached}
use Rattle.pli_holes.proofs.walk.pass.Goals as goal

pub loop-at-init : goal.loop-at-init
loop-at-init c = λ holes s. passed_none c.args.region.now c.args.first c.args.until c.args.room holes s

pub word-requires : goal.word-requires
word-requires c =
    let r = is_reached (c.loop-at.invariant c.requires.chain.holes c.requires.chain.spelled) c.loop-at-test.true c.requires.within in omega (arith, r.within)

pub overflow_add-at : goal.overflow_add-at
overflow_add-at c =
    let r = is_reached (c.loop-at.invariant c.requires.chain.holes c.requires.chain.spelled) c.loop-at-test.true c.requires.within in omega (arith, r.within)

pub word-at-requires : goal.word-at-requires
word-at-requires c =
    let r = is_reached (c.loop-at.invariant c.requires.chain.holes c.requires.chain.spelled) c.loop-at-test.true c.requires.within in omega (arith, r.within)

pub overflow_add-passed : goal.overflow_add-passed
overflow_add-passed c =
    let r = is_reached (c.loop-at.invariant c.requires.chain.holes c.requires.chain.spelled) c.loop-at-test.true c.requires.within in omega (arith, r.within, r.counted)

pub loop-at-smaller : goal.loop-at-smaller
loop-at-smaller c =
    let r = is_reached (c.loop-at.invariant c.requires.chain.holes c.requires.chain.spelled) c.loop-at-test.true c.requires.within in omega (arith, r.onward, c.word-at.ensures)

pub loop-at-preserved : goal.loop-at-preserved
loop-at-preserved c = λ holes s.
    let P : ℕ × ℕ → Type 0 = λ x. HasPassed (word_at c.args.region.now) (length c.args.region.now) c.args.first c.args.until c.args.room holes (Some (record { start = c.loop-at.at; room = x.0 })) x.1 (c.loop-at.passed + 1) in
    subst P (λ i. (sym c.word.ensures i, sym c.word-at.ensures i))
    (passed_more _ _ _ _ _ _ _ _ _ (c.loop-at.invariant holes s) c.loop-at-test.true c.requires.within (omega (arith, c.if-hole-room.false, c.word.ensures)))

pub returns-after-loop-at : goal.returns-after-loop-at
returns-after-loop-at c = λ holes s. stopped_before _ _ _ _ _ _ _ _ _ (c.loop-at.invariant holes s) c.loop-at-test.false

pub returns-then-hole-room : goal.returns-then-hole-room
returns-then-hole-room c = λ holes s. stopped_at _ _ _ _ _ _ _ _ _ (c.loop-at.invariant holes s) (omega (arith, c.if-hole-room.true, c.word.ensures))
