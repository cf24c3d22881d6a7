use Rattle.std.proofs.Common.{◌∙◌}
use Rattle.pli_machine_activations.proofs.LinkedUnits.{entry_there}
use Rattle.pli_machine_activations.proofs.globals.entry_at.Goals as goal

pub returns : goal.returns
returns c = entry_there c.args.unit.now c.args.number ∙ c.entry_in.ensures
