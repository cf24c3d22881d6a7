use Rattle.std.proofs.Common.{◌≡◌, ◌/◌, ◌%◌, ℕ, Bool, false, List, get_or, arith, ap, sym, ◌∙◌}
use Rattle.std.proofs.lemmas.Bool.{le-ltb}
use Rattle.std.proofs.lemmas.List.{get_or_past}
use Rattle.pli_area.specs.MarkBits.{has_bit, marks_of}
use Rattle.pli_area.proofs.BitLemmas.{long, mark_of, by_default}
use Rattle.pli_area.proofs.marks.Marks.is_set.Goals as goal

pub returns-then-number-self : goal.returns-then-number-self
returns-then-number-self c =
    let ws = c.self.inside.words.items in let n = c.self.inside.count in let number = c.args.number in
    let word : c.index.result.now ≡ get_or ws (number / 64) 0 = by_default ws (number / 64) c.index.result.now (omega (arith, c.if-number-self.true, c.self.invariant)) c.index.ensures in
    c.has_bit.ensures ∙ ap (λ (w : ℕ). has_bit w (number % 64)) word ∙ sym (mark_of ws n number c.if-number-self.true) ∙ ap (λ (bs : List Bool). get_or bs number false) c.self.view_is

pub returns-else-number-self : goal.returns-else-number-self
returns-else-number-self c =
    let ws = c.self.inside.words.items in let n = c.self.inside.count in
    let past : get_or (marks_of ws 0 n) c.args.number false ≡ false = get_or_past (marks_of ws 0 n) c.args.number false (omega (arith, long ws 0 n, c.if-number-self.false)) in
    le-ltb c.args.number n c.if-number-self.false ∙ sym past ∙ ap (λ (bs : List Bool). get_or bs c.args.number false) c.self.view_is
