use Rattle.pli_resolve_bounds.proofs.SymbolsWithin as law
use Rattle.pli_resolve_bounds.proofs.laws.parameters_are_few.Goals as goal

pub returns : goal.returns
returns c = law.parameters_are_few
