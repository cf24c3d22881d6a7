use Rattle.std.proofs.Common.{◌++◌, ◌∷◌, [], length, ap, ◌∙◌, sym}
use Rattle.pli_type_tree.specs.views.TypedView.{callee_view, arguments_view, form_view}
use Rattle.pli_gen_emit.specs.TreeTranslation.{arguments_code, call_instruction}
use Rattle.pli_gen_emit.specs.answers.Pieces.{simple_code}
use Rattle.pli_gen_emit.proofs.EmitLemmas.{then_emits}
use Rattle.pli_gen_emit.proofs.TreeCode.{arguments_counted}
use Rattle.pli_gen_emit.proofs.simple.emit_simple.Goals as goal

pub returns-in-Call : goal.returns-in-Call
returns-in-Call c =
    let b = c.in-Call in
    let given = c.as_slice-arguments.result.now in
    then_emits c.args.code.now c.emit_arguments.new.code c.call.new.self (arguments_code (arguments_view given)) (call_instruction (callee_view b.callee) (length given) ∷ []) _
    c.emit_arguments.ensures c.call.ensures
    (ap (λ xs. arguments_code (arguments_view xs) ++ call_instruction (callee_view b.callee) (length xs) ∷ []) c.as_slice-arguments.ensures.value
    ∙ ap (λ n. arguments_code (arguments_view b.arguments.items) ++ call_instruction (callee_view b.callee) n ∷ []) (sym (arguments_counted b.arguments.items))
    ∙ sym (ap (λ f. simple_code (form_view f) (length c.args.code.now.code.items)) b.is))
