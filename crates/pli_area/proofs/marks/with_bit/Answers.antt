use Rattle.std.proofs.Common.{ℕ, nat_eq, ap, sym, ◌∙◌, w64}
use Rattle.std.proofs.lemmas.Nat.Bits.{bit_at_set_same, bit_at_set_other, bit_at_clear_same, bit_at_clear_other}
use Rattle.pli_area.proofs.marks.with_bit.Goals as goal

pub returns-then-is_set-clause-same : goal.returns-then-is_set-clause-same
returns-then-is_set-clause-same c = ap (λ (b : ℕ). nat_eq b 1) (bit_at_set_same w64 c.args.word c.args.bit c.requires) ∙ sym c.if-is_set.true

pub returns-then-is_set-clause-others : goal.returns-then-is_set-clause-others
returns-then-is_set-clause-others c = λ other lt ne. ap (λ (b : ℕ). nat_eq b 1) (bit_at_set_other w64 c.args.word c.args.bit c.requires other ne)

pub returns-else-is_set-clause-same : goal.returns-else-is_set-clause-same
returns-else-is_set-clause-same c = ap (λ (b : ℕ). nat_eq b 1) (bit_at_clear_same w64 c.args.word c.args.bit c.requires) ∙ sym c.if-is_set.false

pub returns-else-is_set-clause-others : goal.returns-else-is_set-clause-others
returns-else-is_set-clause-others c = λ other lt ne. ap (λ (b : ℕ). nat_eq b 1) (bit_at_clear_other w64 c.args.word c.args.bit c.requires other lt ne)
