use Rattle.std.proofs.Common.{◌≢◌, ◌+◌, ◌<◌, length, get_or, sym, arith}
use Rattle.pli_lex.proofs.CharactersGathered.{goes_over, goes_over_two, closes_string, no_string}
use Rattle.pli_lex.proofs.quoted.characters_of.Goals as goal
use Rattle.pli_lex.proofs.quoted.characters_of.Goals.{else-at-text-via-then-at-text+else-text-at-eq39, else-at-text-via-else-at-text, then-byte-ne39, else-byte-ne39+then-at-text+then-text-at-eq39}

pub returns-else-at-text : goal.returns-else-at-text
returns-else-at-text c =
    let text = c.args.text.now in
    let other : c.loop-at.at + 1 < length text → get_or text (c.loop-at.at + 1) 0 ≢ 39 =
    elim c.else-at-text.branch [
      | else-at-text-via-then-at-text+else-text-at-eq39 w ↦ λ lt. w.if-text-at-eq39.false
      | else-at-text-via-else-at-text w ↦ λ lt. absurd (omega arith)
    ] in
    sym (closes_string text c.loop-at.characters.items c.loop-at.at c.loop-at-test.true c.if-byte-ne39.false other c.loop-at.invariant.string)

pub loop-at-preserved : goal.loop-at-preserved
loop-at-preserved c =
    let text = c.args.text.now in
    elim c.if-byte-ne39.branch [
      | then-byte-ne39 w ↦
          let next = goes_over text c.loop-at.characters.items c.loop-at.at c.loop-at-test.true w.if-byte-ne39.true (omega (arith, c.type_inv.text c.loop-at.at)) c.loop-at.invariant.string in
          record { within = omega (arith, w.at-is); string = rw (c.in_ok-push.ensures.items, w.at-is) next }
      | else-byte-ne39+then-at-text+then-text-at-eq39 w ↦
          let next = goes_over_two text c.loop-at.characters.items c.loop-at.at w.if-at-text.true w.if-byte-ne39.false w.if-text-at-eq39.true c.loop-at.invariant.string in
          record { within = omega (arith, w.at-is); string = rw (c.in_ok-push.ensures.items, w.at-is) next }
    ]

pub returns : goal.returns
returns c = sym (no_string c.args.text.now c.loop-at.characters.items c.loop-at.at c.loop-at-test.false c.loop-at.invariant.string)
