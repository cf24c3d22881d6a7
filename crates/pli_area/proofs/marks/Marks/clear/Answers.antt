use Rattle.std.proofs.Common.{◌≡◌, ◌/◌, ◌+◌, ℕ, false, List, length, replicate, arith, ap, ◌∙◌, sym}
use Rattle.pli_area.specs.MarkBits.{marks_of}
use Rattle.pli_area.proofs.BitLemmas.{long, none_set}
use Rattle.pli_area.proofs.marks.Marks.clear.Goals as goal

pub returns : goal.returns
returns c =
    let ws = c.self.inside.words.items in let n = c.self.inside.count in
    let zero : c.clear_words.new.words.items ≡ replicate (n / 64 + 1) 0 = c.clear_words.ensures ∙ ap (λ (k : ℕ). replicate k 0) c.self.invariant in
    ap (λ (vs : List ℕ). marks_of vs 0 n) zero ∙ none_set (n / 64 + 1) n (omega arith) ∙ ap (λ (k : ℕ). replicate k false) (sym (long ws 0 n) ∙ ap length c.self.view_is)
