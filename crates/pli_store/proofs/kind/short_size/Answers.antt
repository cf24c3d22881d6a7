use Rattle.std.proofs.Common.{sym, ◌∙◌, arith}
use Rattle.pli_store.proofs.kind.short_size.Goals as goal

pub returns-in-4 : goal.returns-in-4
returns-in-4 c = λ some. (omega (arith, c.size_at_once.ensures, c.in-4.is), sym c.is_area.ensures ∙ c.if-is_area.false)

pub returns-in-8 : goal.returns-in-8
returns-in-8 c = λ some. (omega (arith, c.size_at_once.ensures, c.in-8.is), sym c.is_area.ensures ∙ c.if-is_area.false)
