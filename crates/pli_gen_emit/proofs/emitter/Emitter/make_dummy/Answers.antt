use Rattle.std.proofs.Common.{ap, ◌∙◌, ◌∷◌, [], min, refl}
use Rattle.pli_map.specs.ParameterTypes.{Stated}
use Rattle.pli_map.specs.views.DescriptionView.{description_view}
use Rattle.pli_program.specs.Templates.{dummy}
use Rattle.pli_program.specs.declared.instruction.Instruction.TheVariants as op
use Rattle.pli_type_keys.specs.Same.{same_template}
use Rattle.pli_gen_emit.specs.Encoding.{number_in}
use Rattle.pli_gen_emit.proofs.NamedLemmas.{named_emitted}
use Rattle.pli_gen_emit.proofs.NumberingLemmas.{numbers_both}
use Rattle.pli_gen_emit.proofs.emitter.Emitter.make_dummy.Goals as goal

pub returns : goal.returns
returns c =
    let old = c.args.self.now in
    let d = description_view c.args.description.now in
    let one = c.number_description in
    let two = c.number_template-template in
    named_emitted old (record old { tables = two.new.tables }) c.put.new.self (op.MakeDummy (dummy d)) _
    (numbers_both old.tables one.new.tables two.new.tables (Stated d ∷ []) [] [] (dummy d ∷ []) [] [] one.ensures.numbers two.ensures.numbers)
    (λ h. ap op.MakeDummy (two.ensures.number h ∙ ap (λ ts. min (number_in same_template ts (dummy d)) 65535) (one.ensures.numbers.templates (two.ensures.numbers.memory h))))
    refl refl refl refl c.put.ensures
