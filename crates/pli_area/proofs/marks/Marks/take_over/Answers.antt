use Rattle.std.proofs.Common.{◌≡◌, ◌≤◌, ◌-◌, ◌/◌, ◌++◌, ℕ, Bool, false, List, get_or, take, replicate, length, arith, ap, sym, ◌∙◌}
use Rattle.pli_area.specs.MarkBits.{has_bit}
use Rattle.pli_area.proofs.BitLemmas.{long, marks_taken}
use Rattle.pli_area.proofs.marks.Marks.take_over.Goals as goal

pub take_front-requires-clause-short : goal.take_front-requires-clause-short
take_front-requires-clause-short c =
    omega (arith, c.requires.short, ap length c.self.view_is, long c.self.inside.words.items 0 c.self.inside.count, c.self.invariant)

pub take_front-requires-clause-long : goal.take_front-requires-clause-long
take_front-requires-clause-long c =
    omega (arith, c.requires.long, ap length c.others.view_is, long c.others.inside.words.items 0 c.others.inside.count, c.others.invariant, ap length c.deref.ensures.value)

pub returns : goal.returns
returns c =
    let ws = c.others.inside.words.items in let n = c.self.inside.count in let m = c.others.inside.count in let count = c.args.count in let new = c.take_front.new.words.items in
    let many : n ≡ length c.args.self.now = sym (long c.self.inside.words.items 0 n) ∙ ap length c.self.view_is in
    let far : count ≤ m = omega (arith, c.requires.long, ap length c.others.view_is, long ws 0 m) in
    let is = c.deref.ensures.value in let does = c.take_front.ensures.cut in
    marks_taken new ws n m count (omega (arith, c.requires.short, many)) far
    (λ k lt. does.before k lt ∙ ap (λ (l : List ℕ). get_or l k 0) is) (λ k lt. does.kept k lt ∙ ap (λ (l : List ℕ). has_bit (get_or l (count / 64) 0) k) is) does.cut does.after
    ∙ ap (λ (bs : List Bool). take count bs ++ replicate (n - count) false) c.others.view_is
    ∙ ap (λ (k : ℕ). take count c.args.others.now ++ replicate (k - count) false) many
