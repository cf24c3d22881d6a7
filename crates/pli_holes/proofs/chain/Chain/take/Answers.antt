use Rattle.std.proofs.Common.{Option, Some, arith, ap, sym, ◌∙◌, refl, subst}
use Rattle.std.specs.Option.{option_map}
use Rattle.pli_holes.specs.declared.hole.Hole.{Hole}
use Rattle.pli_holes.specs.Holes.{Spells}
use Rattle.pli_holes.proofs.TakeLemmas.{to_end, if_some, before_within, taken_none, chosen, taken_leaves}
use Rattle.pli_holes.proofs.chain.Chain.take.Goals as goal

pub returns-then-stop-len-clause-place : goal.returns-then-stop-len-clause-place
returns-then-stop-len-clause-place c = λ holes s.
    let n = taken_none _ _ _ holes _ _ _ (to_end c.len-len.ensures (c.pass-stop.ensures holes s)) (c.if-stop-len.true ∙ c.len-len.ensures) in
    ap (λ (o : Option Hole). option_map (λ (h : Hole). h.start) o) n.0.none

pub returns-then-stop-len-clause-looked_at : goal.returns-then-stop-len-clause-looked_at
returns-then-stop-len-clause-looked_at c = λ holes s.
    let n = taken_none _ _ _ holes _ _ _ (to_end c.len-len.ensures (c.pass-stop.ensures holes s)) (c.if-stop-len.true ∙ c.len-len.ensures) in
    n.1 ∙ sym n.0.count

pub returns-then-stop-len-clause-spelled : goal.returns-then-stop-len-clause-spelled
returns-then-stop-len-clause-spelled c = λ holes s.
    let n = taken_none _ _ _ holes _ _ _ (to_end c.len-len.ensures (c.pass-stop.ensures holes s)) (c.if-stop-len.true ∙ c.len-len.ensures) in
    subst (λ xs. Spells c.args.region.now c.args.self.now.first xs) (sym n.0.left) s

pub overflow_cast-room : goal.overflow_cast-room
overflow_cast-room c =
    let g = chosen _ _ _ _ _ _ _ (to_end c.len-len.ensures (c.pass-stop.ensures c.requires.chain.holes c.requires.chain.spelled)) (λ e. c.if-stop-len.false (e ∙ sym c.len-len.ensures)) in
    omega (arith, g.fits, g.size, g.within, c.len-len.ensures, c.len-len.type_inv)

pub shorten-to-requires-clause-within : goal.shorten-to-requires-clause-within
shorten-to-requires-clause-within c =
    let g = chosen _ _ _ _ _ _ _ (to_end c.len-len.ensures (c.pass-stop.ensures c.requires.chain.holes c.requires.chain.spelled)) (λ e. c.if-stop-len.false (e ∙ sym c.len-len.ensures)) in
    g.within

pub shorten-to-requires-clause-fits : goal.shorten-to-requires-clause-fits
shorten-to-requires-clause-fits c =
    let g = chosen _ _ _ _ _ _ _ (to_end c.len-len.ensures (c.pass-stop.ensures c.requires.chain.holes c.requires.chain.spelled)) (λ e. c.if-stop-len.false (e ∙ sym c.len-len.ensures)) in
    omega (arith, g.fits, g.size)

pub shorten-to-requires-clause-whole : goal.shorten-to-requires-clause-whole
shorten-to-requires-clause-whole c =
    let g = chosen _ _ _ _ _ _ _ (to_end c.len-len.ensures (c.pass-stop.ensures c.requires.chain.holes c.requires.chain.spelled)) (λ e. c.if-stop-len.false (e ∙ sym c.len-len.ensures)) in
    let whole = g.lie.1 in omega (arith, whole, g.size)

pub lead-self-requires-clause-within : goal.lead-self-requires-clause-within
lead-self-requires-clause-within c = if_some _ _ (λ h e.
    let s = (to_end c.len-len.ensures (c.pass-stop.ensures c.requires.chain.holes c.requires.chain.spelled)) in
    let g = chosen _ _ _ _ _ _ _ (to_end c.len-len.ensures (c.pass-stop.ensures c.requires.chain.holes c.requires.chain.spelled)) (λ e. c.if-stop-len.false (e ∙ sym c.len-len.ensures)) in
    let low = before_within s h e in
    let k = c.shorten-to.ensures.changes _ refl in
    omega (arith, low, g.within, k.count))

pub overflow_add-result : goal.overflow_add-result
overflow_add-result c =
    let g = chosen _ _ _ _ _ _ _ (to_end c.len-len.ensures (c.pass-stop.ensures c.requires.chain.holes c.requires.chain.spelled)) (λ e. c.if-stop-len.false (e ∙ sym c.len-len.ensures)) in
    omega (arith, g.counted, g.within, c.len-len.ensures, c.len-len.type_inv)

pub returns-clause-place : goal.returns-clause-place
returns-clause-place c = λ holes s.
    let g = chosen _ _ _ _ _ _ _ (to_end c.len-len.ensures (c.pass-stop.ensures holes s)) (λ e. c.if-stop-len.false (e ∙ sym c.len-len.ensures)) in
    ap (λ (o : Option Hole). option_map (λ (h : Hole). h.start) o) g.found.first ∙ ap (λ q. Some q) (sym g.start)

pub returns-clause-looked_at : goal.returns-clause-looked_at
returns-clause-looked_at c = λ holes s.
    let g = chosen _ _ _ _ _ _ _ (to_end c.len-len.ensures (c.pass-stop.ensures holes s)) (λ e. c.if-stop-len.false (e ∙ sym c.len-len.ensures)) in
    sym g.found.count

pub returns-clause-spelled : goal.returns-clause-spelled
returns-clause-spelled c = λ holes s.
    (taken_leaves c.args.region.now c.shorten-to.new.region c.lead-self.new.region _ _ _ _ holes _ _ _ (to_end c.len-len.ensures (c.pass-stop.ensures holes s)) (λ e. c.if-stop-len.false (e ∙ sym c.len-len.ensures)) c.requires.aligned c.shorten-to.ensures c.lead-self.ensures).0

pub returns-clause-kept : goal.returns-clause-kept
returns-clause-kept c = λ holes s.
    (taken_leaves c.args.region.now c.shorten-to.new.region c.lead-self.new.region _ _ _ _ holes _ _ _ (to_end c.len-len.ensures (c.pass-stop.ensures holes s)) (λ e. c.if-stop-len.false (e ∙ sym c.len-len.ensures)) c.requires.aligned c.shorten-to.ensures c.lead-self.ensures).1
