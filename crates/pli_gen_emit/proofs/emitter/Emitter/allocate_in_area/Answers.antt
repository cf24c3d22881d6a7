use Rattle.std.proofs.Common.{ap, ◌∙◌, min, refl}
use Rattle.pli_type_tree.specs.views.TemplateView.{template_view}
use Rattle.pli_program.specs.declared.instruction.Instruction.TheVariants as op
use Rattle.pli_gen_emit.specs.Encoding.{template_number}
use Rattle.pli_gen_emit.specs.views.TableView.{tables_view}
use Rattle.pli_gen_emit.proofs.NamedLemmas.{named_emitted}
use Rattle.pli_gen_emit.proofs.emitter.Emitter.allocate_in_area.Goals as goal

pub returns : goal.returns
returns c =
    let old = c.args.self.now in
    let t = template_view c.args.template.now in
    let used = c.number_used-template in
    let target = c.short-target in
    named_emitted old (record old { tables = used.new.tables }) c.put.new.self (op.AllocateInArea t c.args.target) _ used.ensures.numbers
    (λ h. ap (λ n. op.AllocateInArea n target.result) (used.ensures.number h)
    ∙ ap (op.AllocateInArea (min (template_number (tables_view old.tables) t) 65535)) target.ensures)
    refl refl refl refl c.put.ensures
