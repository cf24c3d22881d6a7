use Rattle.std.proofs.Common.{ℕ, ◌+◌, ◌-◌, ◌%◌, ap, ◌∙◌}
use Rattle.std.specs.Int.{bit_at}
use Rattle.pli_value.proofs.ByteLemmas.{in_window}
use Rattle.pli_value.proofs.packing.window.Goals as goal

pub returns : goal.returns
returns c = λ i below.
    in_window c.args.bytes.now c.args.place i c.across.result below
    (λ within. c.across.ensures.front i below within ∙ ap (λ (b : ℕ). bit_at b (7 - (c.args.place % 8 + i))) c.byte_at.ensures)
    (λ over. c.across.ensures.back i below over ∙ ap (λ (b : ℕ). bit_at b (15 - (c.args.place % 8 + i))) c.byte_at-2.ensures)
