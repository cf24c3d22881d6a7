use Rattle.pli_machine_perform.proofs.WorldLemmas.{jump_made}
use Rattle.pli_machine_perform.proofs.instructions.jump_unless.Goals as goal

pub returns : goal.returns
returns c = λ u. jump_made c.args.machine.now c.jump_unless.ensures
