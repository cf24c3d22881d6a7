use Rattle.pli_include.proofs.TraceDecides.{trace_decides, expansion_stays}
use Rattle.pli_include.proofs.laws.trace_decides.Goals as goal

pub returns-clause-looks : goal.returns-clause-looks
returns-clause-looks c = trace_decides

pub returns-clause-stores : goal.returns-clause-stores
returns-clause-stores c = expansion_stays
