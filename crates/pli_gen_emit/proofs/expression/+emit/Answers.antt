use Rattle.std.proofs.Common.{◌+◌, ◌++◌, ◌∷◌, [], suc, List, length, drop, arith, refl, ap, ◌∙◌, sym, append_assoc, add-one}
use Rattle.std.proofs.lemmas.List.{at_drop_more}
use Rattle.pli_program.specs.Program as programs
use Rattle.pli_program.specs.declared.instruction.Instruction.TheVariants as op
use Rattle.pli_map.specs.views.DescriptionView.{description_view}
use Rattle.pli_type_tree.specs.TypedTree.{NoArgument}
use Rattle.pli_type_tree.specs.declared.expression.TypedSubscript.{TypedSubscript}
use Rattle.pli_type_tree.specs.views.TypedView.{root_view, callee_view, operation_view, argument_before, expression_view, reference_view, operands_view, arguments_view, subscripts_view}
use Rattle.pli_gen_emit.specs.TreeTranslation.{root_code, call_instruction, operation_code, arguments_code, operands_code, subscripts_code, dimensions_code, value_code, place_code}
use Rattle.pli_gen_emit.proofs.EmitLemmas.{emits_both, then_emits, amid_more, amid_next}
use Rattle.pli_gen_emit.proofs.TreeCode.{argument_first, operation_code_made, call_code_made, as_pointer_code_made, as_offset_code_made, located_code_made, part_code_made, element_code_made}
use Rattle.pli_gen_emit.proofs.expression.+emit.Goals as goal

pub emit_arguments-loop-argument-preserved : goal.emit_arguments-loop-argument-preserved
emit_arguments-loop-argument-preserved t c =
    amid_next (λ xs. arguments_code (arguments_view xs)) (λ x. arguments_code (argument_before x NoArgument)) c.args.code.now c.loop-argument.code c.emit_argument.new.code
    c.args.arguments.now c.loop-argument.argument-index c.argument-item.result (arguments_code (arguments_view c.args.arguments.now))
    (λ x ys. argument_first x (arguments_view ys)) (omega arith) c.argument-item.is c.emit_argument.ensures c.loop-argument.invariant

pub emit_operands-loop-operand-preserved : goal.emit_operands-loop-operand-preserved
emit_operands-loop-operand-preserved t c =
    amid_next (λ xs. operands_code (operands_view xs)) (λ x. value_code (expression_view x)) c.args.code.now c.loop-operand.code c.emit_value.new.code
    c.args.operands.now c.loop-operand.operand-index c.operand-item.result (operands_code (operands_view c.args.operands.now))
    (λ x ys. refl) (omega arith) c.operand-item.is c.emit_value.ensures c.loop-operand.invariant

pub emit_subscripts-loop-subscript-preserved : goal.emit_subscripts-loop-subscript-preserved
emit_subscripts-loop-subscript-preserved t c =
    let leads : TypedSubscript → List programs.Instruction = λ x. op.Subscript x.stride.low x.stride.high x.stride.multiplier ∷ [] in
    let x = c.subscript-item.result in
    amid_next (λ xs. subscripts_code (subscripts_view xs)) (λ x. value_code (expression_view x.value) ++ leads x) c.args.code.now c.loop-subscript.code c.subscript.new.self
    c.args.subscripts.now c.loop-subscript.subscript-index x (subscripts_code (subscripts_view c.args.subscripts.now))
    (λ x ys. sym (append_assoc (value_code (expression_view x.value)) (leads x) (subscripts_code (subscripts_view ys)))) (omega arith) c.subscript-item.is
    (emits_both c.loop-subscript.code c.emit_value.new.code c.subscript.new.self (value_code (expression_view x.value)) (leads x) c.emit_value.ensures c.subscript.ensures)
    c.loop-subscript.invariant

pub emit_value-returns-in-Calculated : goal.emit_value-returns-in-Calculated
emit_value-returns-in-Calculated t c =
    let b = c.in-Calculated in
    let last = operation_code (operation_view b.operation) ∷ [] in
    then_emits c.args.code.now c.emit_operands.new.code c.operation.new.self _ last _ c.emit_operands.ensures c.operation.ensures
    (ap (λ xs. operands_code (operands_view xs) ++ last) c.as_slice.ensures.value
    ∙ sym (ap (λ e. value_code (expression_view e)) b.is ∙ operation_code_made b.operation b.operands))

pub emit_value-returns-in-Called : goal.emit_value-returns-in-Called
emit_value-returns-in-Called t c =
    let b = c.in-Called in
    let given = c.as_slice-arguments.result.now in
    then_emits c.args.code.now c.emit_arguments.new.code c.call.new.self (arguments_code (arguments_view given)) (call_instruction (callee_view b.callee) (length given) ∷ []) _
    c.emit_arguments.ensures c.call.ensures
    (ap (λ xs. arguments_code (arguments_view xs) ++ call_instruction (callee_view b.callee) (length xs) ∷ []) c.as_slice-arguments.ensures.value
    ∙ sym (ap (λ e. value_code (expression_view e)) b.is ∙ call_code_made b.callee b.arguments))

pub emit_value-returns-in-AsPointer : goal.emit_value-returns-in-AsPointer
emit_value-returns-in-AsPointer t c =
    let b = c.in-AsPointer in
    let old = c.args.code.now in
    let valued = c.emit_value.new.code in
    let placed = c.emit_place-in-AsPointer.new.code in
    let area = place_code (reference_view b.area) in
    let last = op.ToPointer ∷ [] in
    then_emits old placed c.emit-in-AsPointer.new.self _ last _
    (emits_both old valued placed (value_code (expression_view c.deref.result.now)) area c.emit_value.ensures c.emit_place-in-AsPointer.ensures) c.emit-in-AsPointer.ensures
    (ap (λ e. value_code (expression_view e) ++ area ++ last) c.deref.ensures
    ∙ sym (ap (λ e. value_code (expression_view e)) b.is ∙ as_pointer_code_made b.area b.offset))

pub emit_value-returns-in-AsOffset : goal.emit_value-returns-in-AsOffset
emit_value-returns-in-AsOffset t c =
    let b = c.in-AsOffset in
    let old = c.args.code.now in
    let valued = c.emit_value-in-AsOffset.new.code in
    let placed = c.emit_place-in-AsOffset.new.code in
    let area = place_code (reference_view b.area) in
    let last = op.ToOffset ∷ [] in
    then_emits old placed c.emit-in-AsOffset.new.self _ last _
    (emits_both old valued placed (value_code (expression_view c.deref-in-AsOffset.result.now)) area c.emit_value-in-AsOffset.ensures c.emit_place-in-AsOffset.ensures) c.emit-in-AsOffset.ensures
    (ap (λ e. value_code (expression_view e) ++ area ++ last) c.deref-in-AsOffset.ensures
    ∙ sym (ap (λ e. value_code (expression_view e)) b.is ∙ as_offset_code_made b.area b.pointer))

pub emit_root-returns-in-Located : goal.emit_root-returns-in-Located
emit_root-returns-in-Located t c =
    let b = c.in-Located in
    let last = op.Based (description_view b.description) ∷ [] in
    then_emits c.args.code.now c.emit_value.new.code c.based.new.self _ last _ c.emit_value.ensures c.based.ensures
    (ap (λ e. value_code (expression_view e) ++ last) c.deref.ensures
    ∙ sym (ap (λ r. root_code (root_view r)) b.is ∙ located_code_made b.locator b.description))

pub emit_place-returns-in-Part : goal.emit_place-returns-in-Part
emit_place-returns-in-Part t c =
    let b = c.in-Part in
    let old = c.args.code.now in
    let first = c.emit_root-in-Part.new.code in
    let second = c.field.new.self in
    let root = root_code (root_view b.root) in
    let field = op.Field b.offset (description_view b.description) ∷ [] in
    let subscripts = subscripts_code (subscripts_view c.as_slice.result.now) in
    then_emits old second c.emit_subscripts.new.code (root ++ field) subscripts _
    (emits_both old first second root field c.emit_root-in-Part.ensures c.field.ensures)
    c.emit_subscripts.ensures
    (append_assoc root field subscripts ∙ ap (λ xs. root ++ (field ++ subscripts_code (subscripts_view xs))) c.as_slice.ensures.value
    ∙ sym (ap (λ r. place_code (reference_view r)) b.is ∙ part_code_made b.root b.offset b.description b.subscripts))

pub emit_place-returns-in-ElementOf : goal.emit_place-returns-in-ElementOf
emit_place-returns-in-ElementOf t c =
    let b = c.in-ElementOf in
    then_emits c.args.code.now c.emit_root-in-ElementOf.new.code c.emit_dimensions.new.code (root_code (root_view b.root)) _ _
    c.emit_root-in-ElementOf.ensures c.emit_dimensions.ensures
    (ap (λ xs. root_code (root_view b.root) ++ dimensions_code 1 (operands_view xs)) c.as_slice-in-ElementOf.ensures.value
    ∙ sym (ap (λ r. place_code (reference_view r)) b.is ∙ element_code_made b.root b.subscripts))

pub emit_dimensions-loop-at-preserved : goal.emit_dimensions-loop-at-preserved
emit_dimensions-loop-at-preserved t c =
    let l = c.loop-at in
    let xs = c.args.subscripts.now in
    let x = c.index-subscripts-at.result in
    let new = c.subscript_in.new.self in
    let rest = dimensions_code (suc (l.at + 1)) (operands_view (drop (l.at + 1) xs)) in
    let here = value_code (expression_view x) ++ op.SubscriptIn (l.at + 1) ∷ [] in
    let splits =
    at_drop_more (λ ys. dimensions_code (suc l.at) (operands_view ys)) xs l.at x (omega arith)
    ∙ ap (λ y. value_code (expression_view y) ++ op.SubscriptIn (suc l.at) ∷ dimensions_code (suc (suc l.at)) (operands_view (drop (l.at + 1) xs))) (sym c.index-subscripts-at.is)
    ∙ ap (λ n. value_code (expression_view x) ++ op.SubscriptIn n ∷ dimensions_code (suc n) (operands_view (drop (l.at + 1) xs))) (sym (add-one l.at))
    ∙ sym (append_assoc (value_code (expression_view x)) (op.SubscriptIn (l.at + 1) ∷ []) rest) in
    amid_more c.args.code.now l.code new here rest (dimensions_code (suc l.at) (operands_view (drop l.at xs))) (dimensions_code 1 (operands_view xs))
    (emits_both l.code c.emit_value.new.code new (value_code (expression_view x)) (op.SubscriptIn (l.at + 1) ∷ []) c.emit_value.ensures c.subscript_in.ensures)
    splits l.invariant
