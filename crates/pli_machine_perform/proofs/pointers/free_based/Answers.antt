use Rattle.std.proofs.Common.{sym}
use Rattle.pli_map.specs.views.DescriptionView.{description_view}
use Rattle.pli_program.specs.declared.instruction.Instruction.TheVariants as op
use Rattle.pli_code.specs.CodeTables.{stated_at}
use Rattle.pli_code.specs.views.CodeView.{code_view}
use Rattle.pli_machine_activations.proofs.FoundInTables.{does_found, does_none}
use Rattle.pli_machine_perform.proofs.pointers.free_based.Goals as goal

pub returns-in-Some : goal.returns-in-Some
returns-in-Some c =
    let there = rw c.in-Some.is at c.description.ensures in
    does_found op.FreeBased (stated_at (code_view c.args.code.now) c.args.description) (description_view c.in-Some.description.now) c.args.machine.now c.free_at.new.machine c.free_at.result
    (sym there) c.free_at.ensures

pub returns-in-None : goal.returns-in-None
returns-in-None c =
    let none = rw c.in-None.is at c.description.ensures in
    does_none op.FreeBased (stated_at (code_view c.args.code.now) c.args.description) c.args.machine.now (sym none)
