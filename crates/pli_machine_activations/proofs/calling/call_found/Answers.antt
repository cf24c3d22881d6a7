use Rattle.pli_machine_step.specs.Machine.{called}
use Rattle.pli_code.specs.views.CodeView.{code_view, block_view}
use Rattle.pli_machine_activations.proofs.EnteredBlocks.{block_found}
use Rattle.pli_machine_activations.proofs.calling.call_found.Goals as goal

pub returns : goal.returns
returns c =
    block_found (called c.args.number c.args.arguments) (code_view c.args.unit.now.linked.now.deck.code) c.args.number (block_view c.args.block.now)
    c.args.machine.now c.call_with.new.machine c.call_with.result c.requires c.call_with.ensures
