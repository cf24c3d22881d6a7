use Rattle.std.proofs.Common.{ap, refl}
use Rattle.pli_map.specs.views.DescriptionView.{description_view}
use Rattle.pli_program.specs.declared.instruction.Instruction.TheVariants as op
use Rattle.pli_gen_emit.proofs.NamedLemmas.{named_emitted}
use Rattle.pli_gen_emit.proofs.emitter.Emitter.based.Goals as goal

pub returns : goal.returns
returns c =
    let old = c.args.self.now in
    let named = c.number_description-description in
    named_emitted old (record old { tables = named.new.tables }) c.put.new.self (op.Based (description_view c.args.description.now)) _ named.ensures.numbers (λ h. ap op.Based (named.ensures.number h)) refl refl refl refl c.put.ensures
