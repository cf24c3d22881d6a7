use Rattle.std.proofs.Common.{◌≡◌, ◌<◌, ◌/◌, ℕ, Bool, List, get_or, set, length, arith, ap, ◌∙◌}
use Rattle.pli_area.specs.MarkBits.{has_bit}
use Rattle.pli_area.proofs.BitLemmas.{long, by_default, marks_set}
use Rattle.pli_area.proofs.marks.Marks.set.Goals as goal

pub index-requires : goal.index-requires
index-requires c = omega (arith, c.requires, ap length c.self.view_is, long c.self.inside.words.items 0 c.self.inside.count, c.self.invariant)

pub index_mut-requires : goal.index_mut-requires
index_mut-requires c = omega (arith, c.requires, ap length c.self.view_is, long c.self.inside.words.items 0 c.self.inside.count, c.self.invariant)

pub returns : goal.returns
returns c =
    let ws = c.self.inside.words.items in let n = c.self.inside.count in let number = c.args.number in
    let inside : number < n = omega (arith, c.requires, ap length c.self.view_is, long ws 0 n) in
    let room : number / 64 < length ws = omega (arith, inside, c.self.invariant) in
    let word : c.index.result.now ≡ get_or ws (number / 64) 0 = by_default ws (number / 64) c.index.result.now room c.index.ensures in
    marks_set ws n number c.with_bit.result c.args.is_set inside room c.with_bit.ensures.same
    (λ k lt ne. c.with_bit.ensures.others k lt ne ∙ ap (λ (w : ℕ). has_bit w k) word) ∙ ap (λ (bs : List Bool). set bs number c.args.is_set) c.self.view_is
