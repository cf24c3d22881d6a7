use Rattle.std.proofs.Common.{true≢false, arith, refl, sym, ◌∙◌}
use Rattle.pli_map.proofs.EqualityLemmas.{other_lengths, same_at}
use Rattle.pli_map.proofs.description.+equals.Goals as goal

pub all_equal-returns-then-left-right : goal.all_equal-returns-then-left-right
all_equal-returns-then-left-right t c = (
  λ e. absurd (true≢false (sym e)),
  λ e. let same = other_lengths c.args.left.now c.args.right.now e in absurd (omega (arith, c.if-left-right.true same)),
)

pub all_equal-returns-then-not-is_equal : goal.all_equal-returns-then-not-is_equal
all_equal-returns-then-not-is_equal t c = (
  λ e. absurd (true≢false (sym e)),
  λ e. sym c.if-not-is_equal.true ∙ c.is_equal.ensures.1 (same_at c.args.left.now c.args.right.now c.loop-i.i _ _ c.loop-i-test.true c.index-left-i.is c.index-right-i.is e),
)

pub is_equal-returns-then-are_same_scalars : goal.is_equal-returns-then-are_same_scalars
is_equal-returns-then-are_same_scalars t c = (λ e. c.if-are_same_scalars.ensures refl, λ e. refl)
