use Rattle.std.proofs.Common.{map}
use Rattle.pli_code.specs.CodeTables.{template_at}
use Rattle.pli_code.specs.views.CodeView.{code_view}
use Rattle.pli_map.specs.views.DescriptionView.{description_view}
use Rattle.pli_program.specs.declared.instruction.Instruction.TheVariants as op
use Rattle.pli_type_tree.specs.Templates.{Template}
use Rattle.pli_type_tree.specs.views.TemplateView.{initial_view}
use Rattle.pli_machine_activations.proofs.FoundInTables.{does_found}
use Rattle.pli_machine_perform.proofs.instructions.make_dummy.Goals as goal

pub returns-in-Some : goal.returns-in-Some
returns-in-Some c =
    let t : Template = record {
      description = description_view c.in-Some.description.now;
      initial = map initial_view c.in-Some.field-0-1.now;
    } in
    does_found op.MakeDummy (template_at (code_view c.args.code.now) c.args.template) t c.args.machine.now c.make_dummy.new.machine c.make_dummy.result c.in-Some.ensures c.make_dummy.ensures
