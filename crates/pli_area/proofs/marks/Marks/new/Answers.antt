use Rattle.std.proofs.Common.{◌/◌, ◌+◌, ℕ, List, arith, ap, ◌∙◌}
use Rattle.pli_area.specs.MarkBits.{marks_of}
use Rattle.pli_area.proofs.BitLemmas.{none_set}
use Rattle.pli_area.proofs.marks.Marks.new.Goals as goal

pub returns : goal.returns
returns c = ap (λ (ws : List ℕ). marks_of ws 0 c.args.count) c.in_ok-words.ensures ∙ none_set (c.args.count / 64 + 1) c.args.count (omega arith)
