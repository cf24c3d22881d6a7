use Rattle.std.proofs.Common.{true≢false, arith, sym, ◌∙◌}
use Rattle.pli_map.proofs.TypeEqualityLemmas.{other_lengths, same_at}
use Rattle.pli_map.proofs.parameter.+equals.Goals as goal

pub all_equal-returns-then-left-right : goal.all_equal-returns-then-left-right
all_equal-returns-then-left-right t c = (
  λ e. absurd (true≢false (sym e)),
  λ e. let same = other_lengths c.args.left.now c.args.right.now e in absurd (omega (arith, c.if-left-right.true same)),
)

pub all_equal-returns-then-not-equals : goal.all_equal-returns-then-not-equals
all_equal-returns-then-not-equals t c = (
  λ e. absurd (true≢false (sym e)),
  λ e. sym c.if-not-equals.true ∙ c.equals.ensures.1 (same_at c.args.left.now c.args.right.now c.loop-i.i _ _ c.loop-i-test.true c.index-left-i.is c.index-right-i.is e),
)
