use Rattle.std.proofs.Common.{map}
use Rattle.pli_code.specs.CodeTables.{template_at}
use Rattle.pli_code.specs.views.CodeView.{code_view}
use Rattle.pli_map.specs.views.DescriptionView.{description_view}
use Rattle.pli_program.specs.declared.instruction.Instruction.TheVariants as op
use Rattle.pli_type_tree.specs.Templates.{Template}
use Rattle.pli_type_tree.specs.views.TemplateView.{initial_view}
use Rattle.pli_machine_activations.specs.views.ImageView.{image_of}
use Rattle.pli_machine_perform.proofs.HaltLemmas.{done_found, done_none}
use Rattle.pli_machine_perform.proofs.areas.allocate_in_area.Goals as goal

pub returns-in-Some : goal.returns-in-Some
returns-in-Some c =
    let t : Template = record {
      description = description_view c.in-Some.description.now;
      initial = map initial_view c.in-Some.scalars.now;
    } in
    done_found (λ (x : Template). op.AllocateInArea x c.args.target) (image_of c.args.unit.now.loaded.now)
    (template_at (code_view c.args.unit.now.linked.now.deck.code) c.args.template) t
    c.args.machine.now c.allocate_at.new.machine c.allocate_at.result c.in-Some.ensures c.allocate_at.ensures

pub returns-in-None : goal.returns-in-None
returns-in-None c =
    done_none (λ (x : Template). op.AllocateInArea x c.args.target) (image_of c.args.unit.now.loaded.now)
    (template_at (code_view c.args.unit.now.linked.now.deck.code) c.args.template) c.args.machine.now c.in-None.ensures
