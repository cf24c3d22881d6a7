use Rattle.pli_declare_variables.proofs.SizeLemmas.{bounded_over}
use Rattle.pli_declare_variables.proofs.sizes.Measured.with_dimensions.Goals as goal

pub returns-in_default : goal.returns-in_default
returns-in_default c = bounded_over c.args.dimensions.now c.requires c.args.self c.in_default.not-Takes
