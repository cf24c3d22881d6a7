use Rattle.pli_resolve_bounds.proofs.StatementsCounted as law
use Rattle.pli_resolve_bounds.proofs.laws.statements_are_few.Goals as goal

pub returns : goal.returns
returns c = law.statements_are_few
