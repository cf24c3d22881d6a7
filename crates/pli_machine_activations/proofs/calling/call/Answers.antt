use Rattle.std.proofs.Common.{None, Some, refl}
use Rattle.pli_machine_step.specs.Machine.{called}
use Rattle.pli_code.specs.views.CodeView.{code_view}
use Rattle.pli_machine_activations.specs.declared.machine.Stop.TheVariants as stop
use Rattle.pli_machine_activations.proofs.EnteredBlocks.{block_moves}
use Rattle.pli_machine_activations.proofs.calling.call.Goals as goal

pub call_found-requires : goal.call_found-requires
call_found-requires c = rw c.in-Some.is at c.block_at.ensures

pub returns-in-None : goal.returns-in-None
returns-in-None c = λ image.
    block_moves image (called c.args.number c.args.arguments) (code_view c.args.unit.now.linked.now.deck.code) c.args.number None c.args.machine.now
    c.args.machine.now (Some stop.Fault) (rw c.in-None.is at c.block_at.ensures) (λ put. refl)
