use Rattle.std.proofs.lemmas.Result.{err_from_is_err_and}
use Rattle.pli_map.specs.Description.{Character}
use Rattle.pli_map.specs.ParameterTypes.{Stated}
use Rattle.pli_map.specs.declared.description.Description.TheVariants as program
use Rattle.pli_deck_write.specs.Descriptions.{string_length, described}
use Rattle.pli_deck_write.proofs.DescriptionViews.{character_said, stated_said}
use Rattle.pli_code.proofs.OperandReading.{one_err, one_ok}
use Rattle.pli_deck_read.proofs.described.scalar_of.Goals as goal

pub returns-in_err-length-in-2 : goal.returns-in_err-length-in-2
unfolding described
returns-in_err-length-in-2 c = λ inner.
    let p = err_from_is_err_and c.from_residual-in_err-length-in-2.result c.from_residual-in_err-length-in-2.ensures.1 in
    rw (p.1, p.2, c.in-2.is) (one_err string_length (λ n. Stated (Character n)) c.args.bytes.now c.in_err-length-in-2.field-0.0 c.in_err-length-in-2.ensures)

pub returns-in_ok-length-in-2 : goal.returns-in_ok-length-in-2
unfolding described
returns-in_ok-length-in-2 c = λ inner.
    rw (c.in-2.is, stated_said (program.Character c.in_ok-length-in-2.length), character_said c.in_ok-length-in-2.length)
    (one_ok string_length (λ n. Stated (Character n)) c.args.bytes.now c.in_ok-length-in-2.length c.in_ok-length-in-2.rest.now c.in_ok-length-in-2.ensures)
