use Rattle.std.proofs.Common.{Some, None, refl}
use Rattle.pli_machine_step.specs.Machine.{establishes}
use Rattle.pli_code.specs.views.CodeView.{code_view, block_view}
use Rattle.pli_machine_activations.specs.declared.machine.Stop.TheVariants as stop
use Rattle.pli_machine_activations.proofs.EnteredBlocks.{block_moves}
use Rattle.pli_machine_activations.proofs.conditions.establish.Goals as goal

pub returns-in-Some : goal.returns-in-Some
returns-in-Some c = λ image.
    let code = code_view c.args.unit.now.linked.now.deck.code in
    block_moves image (establishes c.args.condition c.args.number) code c.args.number (Some (block_view c.in-Some.block.now))
    c.args.machine.now c.establish_block.new.machine c.establish_block.result
    (rw c.in-Some.is at c.block_at.ensures) (c.establish_block.ensures code image)

pub returns-in-None : goal.returns-in-None
returns-in-None c = λ image.
    block_moves image (establishes c.args.condition c.args.number) (code_view c.args.unit.now.linked.now.deck.code) c.args.number None
    c.args.machine.now c.args.machine.now (Some stop.Fault) (rw c.in-None.is at c.block_at.ensures) (λ put. refl)
