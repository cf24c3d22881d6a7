use Rattle.pli_resolve_bounds.proofs.SymbolsWithin as law
use Rattle.pli_resolve_bounds.proofs.laws.symbols_are_limited.Goals as goal

pub returns : goal.returns
returns c = law.symbols_are_limited
