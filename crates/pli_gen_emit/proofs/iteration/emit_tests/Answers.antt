use Rattle.std.proofs.Common.{ap, ◌∙◌}
use Rattle.pli_type_tree.specs.views.TypedView.{iteration_view}
use Rattle.pli_gen_emit.specs.TreeTranslation.{limit_test, while_test, guarded}
use Rattle.pli_gen_emit.specs.answers.Emitting.{emission}
use Rattle.pli_gen_emit.specs.answers.Pieces.{jump_place}
use Rattle.pli_gen_emit.proofs.EmitLemmas.{longer}
use Rattle.pli_gen_emit.proofs.iteration.emit_tests.Goals as goal

pub returns-clause-turn : goal.returns-clause-turn
returns-clause-turn c =
    let i = iteration_view c.args.iteration.now in
    let old = emission c.args.code.now in
    λ h. record {
      place = c.place-place.ensures;
      limit = c.emit_limit-limit.ensures.place (c.emit_while-condition.ensures.code.0 h);
      condition = c.emit_while-condition.ensures.place h
          ∙ ap (jump_place (while_test i.condition)) (longer old (emission c.emit_limit-limit.new.code) (guarded (limit_test i) 0) (c.emit_limit-limit.ensures.code.1 (c.emit_while-condition.ensures.code.0 h)));
    }
