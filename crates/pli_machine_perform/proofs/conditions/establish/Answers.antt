use Rattle.pli_machine_activations.specs.views.ImageView.{image_of}
use Rattle.pli_machine_perform.proofs.conditions.establish.Goals as goal

pub returns : goal.returns
returns c = c.establish.ensures (image_of c.args.unit.now.loaded.now)
