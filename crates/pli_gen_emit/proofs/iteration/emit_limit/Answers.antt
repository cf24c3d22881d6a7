use Rattle.std.proofs.Common.{◌+◌, ◌++◌, ◌∷◌, [], Some, length, ap, ◌∙◌, sym}
use Rattle.pli_operation.specs.declared.operation.Operation.TheVariants.{Within}
use Rattle.pli_type_tree.specs.views.TypedView.{iteration_view}
use Rattle.pli_type_tree.specs.Iterations.{step_number}
use Rattle.pli_gen_emit.specs.TreeTranslation.{test_against, place_code}
use Rattle.pli_gen_emit.specs.answers.Emitting.{emission, Emits}
use Rattle.pli_gen_emit.specs.answers.Pieces.{jump_place}
use Rattle.pli_program.specs.declared.instruction.Instruction.TheVariants as op
use Rattle.pli_gen_emit.proofs.EmitLemmas.{emits_both, longer}
use Rattle.pli_gen_emit.proofs.iteration.emit_limit.Goals as goal

pub returns-clause-place : goal.returns-clause-place
returns-clause-place c =
    let i = iteration_view c.args.iteration.now in
    let old = c.args.code.now in
    let limit = c.in-Some.limit in
    let step = step_number i.range in
    let place = place_code i.control in
    let placed = c.emit_place.new.code in
    let two = c.take_temporary.new.self in
    let three = c.take_temporary-2.new.self in
    let four = c.emit-2.new.self in
    let a = op.TakeTemporary (i.temporary + limit) in
    let b = op.TakeTemporary (i.temporary + c.step_number-step.result) in
    let rest = a ∷ b ∷ op.Operate Within ∷ [] in
    let loaded : Emits placed four (op.Load ∷ rest) =
    emits_both placed c.emit.new.self four (op.Load ∷ []) rest c.emit.ensures
    (emits_both c.emit.new.self two four (a ∷ []) (b ∷ op.Operate Within ∷ []) c.take_temporary.ensures
    (emits_both two three four (b ∷ []) (op.Operate Within ∷ []) c.take_temporary-2.ensures c.emit-2.ensures)) in
    let all : Emits old four (place ++ op.Load ∷ rest) = emits_both old placed four place (op.Load ∷ rest) c.emit_place.ensures loaded in
    λ h. ap Some (c.place-test.ensures ∙ longer (emission old) (emission four) (place ++ op.Load ∷ rest) (all.1 (c.jump_unless.ensures.0 h)))
    ∙ ap (λ n. jump_place (Some (place ++ op.Load ∷ a ∷ op.TakeTemporary (i.temporary + n) ∷ op.Operate Within ∷ [])) (length old.code.items)) c.step_number-step.ensures
    ∙ ap (λ o. jump_place (test_against i o step) (length old.code.items)) (sym c.in-Some.is ∙ c.limit_number.ensures)
