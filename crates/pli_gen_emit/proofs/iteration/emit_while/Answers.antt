use Rattle.std.proofs.Common.{Some, length, ap, ◌∙◌, sym, option_map}
use Rattle.pli_type_tree.specs.views.TypedView.{expression_view}
use Rattle.pli_gen_emit.specs.TreeTranslation.{value_code, while_test}
use Rattle.pli_gen_emit.specs.answers.Emitting.{emission}
use Rattle.pli_gen_emit.specs.answers.Pieces.{jump_place}
use Rattle.pli_gen_emit.proofs.EmitLemmas.{longer}
use Rattle.pli_gen_emit.proofs.iteration.emit_while.Goals as goal

pub returns-in-Some-clause-place : goal.returns-in-Some-clause-place
returns-in-Some-clause-place c =
    let old = emission c.args.code.now in
    let e = c.in-Some.condition in
    λ h. ap Some (c.place-test.ensures ∙ longer old (emission c.emit_value.new.code) (value_code (expression_view e)) (c.emit_value.ensures.1 (c.jump_unless.ensures.0 h)))
    ∙ ap (λ o. jump_place (while_test (option_map expression_view o)) (length old.code)) (sym c.in-Some.is)
