use Rattle.std.proofs.Common.{None, Some, refl}
use Rattle.pli_machine_step.specs.Machine.{begins}
use Rattle.pli_code.specs.views.CodeView.{code_view, block_view}
use Rattle.pli_machine_activations.specs.declared.machine.Stop.TheVariants as stop
use Rattle.pli_machine_activations.proofs.EnteredBlocks.{block_moves, block_found}
use Rattle.pli_machine_activations.proofs.calling.enter_begin.Goals as goal

pub returns-in-Some : goal.returns-in-Some
returns-in-Some c =
    block_found (begins c.args.number) (code_view c.args.unit.now.linked.now.deck.code) c.args.number (block_view c.in-Some.block.now)
    c.args.machine.now c.begin_with.new.machine c.begin_with.result
    (rw c.in-Some.is at c.block_at.ensures) c.begin_with.ensures

pub returns-in-None : goal.returns-in-None
returns-in-None c = λ image.
    block_moves image (begins c.args.number) (code_view c.args.unit.now.linked.now.deck.code) c.args.number None c.args.machine.now
    c.args.machine.now (Some stop.Fault) (rw c.in-None.is at c.block_at.ensures) (λ put. refl)
