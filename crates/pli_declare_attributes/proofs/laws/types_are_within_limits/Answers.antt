use Rattle.pli_declare_attributes.proofs.LimitsOfItems.{results_are_scalars, parameters_are_of_scalars, variables_are_of_scalars}
use Rattle.pli_declare_attributes.proofs.laws.types_are_within_limits.Goals as goal

pub returns : goal.returns
returns c = record { results = results_are_scalars; parameters = parameters_are_of_scalars; variables = variables_are_of_scalars }
