use Rattle.pli_declare.proofs.ResolvedExamplesHold.{one_variable, hiding, jump, located, areas, of_members}
use Rattle.pli_declare.proofs.laws.resolved_examples.Goals as goal

pub returns : goal.returns
returns c = record { one_variable = one_variable; hiding = hiding; jump = jump; located = located; areas = areas; of_members = of_members }
