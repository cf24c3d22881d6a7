use Rattle.std.proofs.Common.{◌∷◌}
use Rattle.std.specs.Prelude.{Option, List}
use Rattle.pli_store.specs.views.StorageView.{place_view}
use Rattle.pli_world.specs.World.{World}
use Rattle.pli_program.specs.Program.{Block}
use Rattle.pli_machine_step.specs.Machine.{AtDummy, Frame, Move, called, with_operands}
use Rattle.pli_code.specs.views.CodeView.{code_view, block_view}
use Rattle.pli_machine_activations.specs.answers.Handing.{with_dummy}
use Rattle.pli_machine_activations.proofs.EnteredBlocks.{block_found}
use Rattle.pli_machine_activations.proofs.calling.call_last.Goals as goal

pub returns : goal.returns
returns c =
    let move : Option Block → Frame → List Frame → World → Move =
    λ b here frames w. called c.args.number c.args.arguments b (with_operands (AtDummy (place_view c.args.last) ∷ here.operands) here) frames (with_dummy c.args.last.generation w) in
    block_found move (code_view c.args.unit.now.linked.now.deck.code) c.args.number (block_view c.args.block.now)
    c.args.machine.now c.call_with_last.new.machine c.call_with_last.result
    c.requires.found c.call_with_last.ensures
