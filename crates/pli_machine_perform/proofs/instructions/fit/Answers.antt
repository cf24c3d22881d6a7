use Rattle.std.proofs.Common.{sym}
use Rattle.pli_map.specs.views.DescriptionView.{description_view}
use Rattle.pli_program.specs.declared.instruction.Instruction.TheVariants as op
use Rattle.pli_code.specs.CodeTables.{stated_at}
use Rattle.pli_code.specs.views.CodeView.{code_view}
use Rattle.pli_machine_activations.specs.views.ImageView.{image_of}
use Rattle.pli_machine_perform.proofs.HaltLemmas.{done_found, done_none}
use Rattle.pli_machine_perform.proofs.instructions.fit.Goals as goal

pub returns-in-Some : goal.returns-in-Some
returns-in-Some c =
    let code = c.args.unit.now.linked.now.deck.code in
    let there = rw c.in-Some.is at c.description.ensures in
    done_found op.Fit (image_of c.args.unit.now.loaded.now) (stated_at (code_view code) c.args.description) (description_view c.in-Some.description.now)
    c.args.machine.now c.fit_at.new.machine c.fit_at.result (sym there) c.fit_at.ensures

pub returns-in-None : goal.returns-in-None
returns-in-None c =
    let code = c.args.unit.now.linked.now.deck.code in
    let none = rw c.in-None.is at c.description.ensures in
    done_none op.Fit (image_of c.args.unit.now.loaded.now) (stated_at (code_view code) c.args.description) c.args.machine.now (sym none)
