use Rattle.std.proofs.Common.{None, Some, refl}
use Rattle.pli_machine_step.specs.Machine.{called_outside}
use Rattle.pli_code.specs.views.CodeView.{code_view, block_view}
use Rattle.pli_machine_activations.specs.declared.machine.Stop.TheVariants as stop
use Rattle.pli_machine_activations.proofs.EnteredBlocks.{block_moves, block_found}
use Rattle.pli_machine_activations.proofs.calling.call_external.Goals as goal

pub returns-in-Some : goal.returns-in-Some
returns-in-Some c =
    block_found (called_outside c.args.unit c.args.arguments) (code_view c.args.ready.now.code.now) 0
    (block_view c.in-Some.block.now) c.args.machine.now c.call_external_with.new.machine
    c.call_external_with.result (rw c.in-Some.is at c.block_at.ensures) c.call_external_with.ensures

pub returns-in-None : goal.returns-in-None
returns-in-None c = λ image.
    block_moves image (called_outside c.args.unit c.args.arguments) (code_view c.args.ready.now.code.now) 0 None
    c.args.machine.now c.args.machine.now (Some stop.Fault) (rw c.in-None.is at c.block_at.ensures)
    (λ put. refl)
