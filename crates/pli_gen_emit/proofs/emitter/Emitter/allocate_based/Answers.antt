use Rattle.std.proofs.Common.{ap, refl}
use Rattle.pli_type_tree.specs.views.TemplateView.{template_view}
use Rattle.pli_program.specs.declared.instruction.Instruction.TheVariants as op
use Rattle.pli_gen_emit.proofs.NamedLemmas.{named_emitted}
use Rattle.pli_gen_emit.proofs.emitter.Emitter.allocate_based.Goals as goal

pub returns : goal.returns
returns c =
    let old = c.args.self.now in
    let used = c.number_used-template in
    named_emitted old (record old { tables = used.new.tables }) c.put.new.self (op.AllocateBased (template_view c.args.template.now)) _ used.ensures.numbers (λ h. ap op.AllocateBased (used.ensures.number h)) refl refl refl refl c.put.ensures
