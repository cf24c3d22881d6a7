use Rattle.std.proofs.Common.{rules, ◌≡◌, map, drop, length, false, [], Some, None, Ok, ap, ◌∙◌, sym, arith, Vec, Global}
use Rattle.pli_base.specs.views.SyntaxView as syntax
use Rattle.pli_base.specs.Syntax.{Given}
use Rattle.pli_base.specs.laws.SyntaxLaws.{reference_out}
use Rattle.pli_base.specs.declared.code.Code.TheVariants.{WrongOperandType}
use Rattle.pli_base.specs.declared.syntax.Expression.{Expression}
use Rattle.pli_type_rules.specs.ExpressionTypes as types
use Rattle.pli_type_rules.specs.FunctionCalls as calls
use Rattle.pli_type_rules.specs.References.{AsLocator, AsValue, NotLocated}
use Rattle.pli_type.specs.views.ValueView.{value_view}
use Rattle.pli_type_rules.specs.Typing as typing
use Rattle.pli_type_rules.specs.TypingSteps as steps
use Rattle.pli_type_names.specs.UnitNaming.{naming_in}
use Rattle.pli_type_tree.specs.views.TypedView.{expression_view}
use Rattle.pli_type_operands.specs.views.TypingView.{argument_view, denoted_view, role_view}
use Rattle.pli_type_expression.specs.views.SegmentView.{locator_view, of_name, segment_view}
use Rattle.pli_type_expression.proofs.BindLemmas.{exits, fails_as, fails_on, bind_ok}
use Rattle.pli_type_expression.proofs.WrittenCalls.{gives_as, call_unmeant, call_typed}
use Rattle.pli_type_expression.proofs.MeaningLemmas.{begun_at_variable, begun_at_function, call_given, begun_beside_function, begun_beside_procedure, procedure_unmeant}
use Rattle.pli_type_expression.proofs.SizeLemmas.{item_size, part_size, expression_size, reference_size, arguments_size, list_size, parts_size}
use Rattle.pli_type_expression.proofs.WalkLemmas.{written_ends, written_unbegun, written_unended, parenthesized_typed, parenthesized_unmeant, infix_valued, infix_typed, left_unmeant, right_unmeant, infix_refused}
use Rattle.pli_type_operands.specs.Operated.{prefixed, infixed}
use Rattle.pli_type_expression.specs.Segments.{next_segment, function_typed}
use Rattle.pli_base.specs.declared.failure.Failure.TheVariants.{OutOfMemory}
use Rattle.pli_type_operands.specs.declared.argument.Argument.{Argument}
use Rattle.pli_type_tree.specs.declared.expression.TypedExpression.{TypedExpression}
use Rattle.pli_type_expression.proofs.LoopLemmas.{arguments_begin, argument_goes_on, argument_undenoted, arguments_end, subscripts_begin, subscript_goes_on, subscript_valueless, subscript_no_number, subscripts_end, part_goes_on, part_fails, parts_end}
use Rattle.pli_type_expression.proofs.expression.+typed.Goals as goal

-- arguments

pub all_arguments-loop-place-init : goal.all_arguments-loop-place-init
all_arguments-loop-place-init t c =
    arguments_begin (naming_in c.args.naming.now) (map role_view c.args.roles.now) c.args.list.now c.new-arguments.result.items c.new-arguments.ensures.items

pub all_arguments-offset_bounds-list-place : goal.all_arguments-offset_bounds-list-place
all_arguments-offset_bounds-list-place t c = search rules

pub all_arguments-bounds-list-place : goal.all_arguments-bounds-list-place
all_arguments-bounds-list-place t c = search rules

pub all_arguments-denoted-requires : goal.all_arguments-denoted-requires
all_arguments-denoted-requires t c =
    omega (arith, c.decreases, item_size c.args.list.now c.loop-place.place c.index-list-place.result (omega arith) c.index-list-place.is)

pub all_arguments-returns-in_err-argument : goal.all_arguments-returns-in_err-argument
all_arguments-returns-in_err-argument t c =
    exits _ c.from_residual.result c.in_err-argument.field-0.0 _ c.from_residual.ensures.1
    (fails_as c.in_err-argument.field-0.0 _ _ c.loop-place.invariant
    (argument_undenoted (naming_in c.args.naming.now) c.args.list.now c.loop-place.place c.index-list-place.result (omega arith) c.index-list-place.is
    (map role_view c.args.roles.now) c.loop-place.arguments.items (role_view c.role_at-role.result) c.in_err-argument.field-0.0 c.role_at-role.ensures c.in_err-argument.ensures))

pub all_arguments-returns-in_err-push : goal.all_arguments-returns-in_err-push
all_arguments-returns-in_err-push t c =
    exits _ c.from_residual-in_err-push.result OutOfMemory _ c.from_residual-in_err-push.ensures.1 tt

pub all_arguments-loop-place-smaller : goal.all_arguments-loop-place-smaller
all_arguments-loop-place-smaller t c = search rules

pub all_arguments-loop-place-preserved : goal.all_arguments-loop-place-preserved
all_arguments-loop-place-preserved t c =
    let n = naming_in c.args.naming.now in
    let e = c.index-list-place.result in
    let m = denoted_view c.in_ok-argument.argument in
    let a : Argument = record { denoted = c.in_ok-argument.argument; written = c.number_written.result } in
    let same : argument_view a ≡ typing.argument (syntax.expression_view e) m = ap (λ w. record { denoted = m; written = w }) c.number_written.ensures in
    c.loop-place.invariant
    ∙ argument_goes_on n c.args.list.now c.loop-place.place e (omega arith) c.index-list-place.is (map role_view c.args.roles.now) c.loop-place.arguments.items c.push.new.self.items
    (role_view c.role_at-role.result) m a c.role_at-role.ensures c.in_ok-argument.ensures same c.in_ok-push.ensures.items

pub all_arguments-returns : goal.all_arguments-returns
all_arguments-returns t c =
    c.loop-place.invariant
    ∙ arguments_end (naming_in c.args.naming.now) c.args.list.now c.loop-place.place (omega arith) (drop c.loop-place.place (map role_view c.args.roles.now)) c.loop-place.arguments.items

-- subscripts

pub all_subscripts-loop-expression-init : goal.all_subscripts-loop-expression-init
all_subscripts-loop-expression-init t c =
    subscripts_begin (naming_in c.args.naming.now) c.args.list.now c.new-subscripts.result.items c.new-subscripts.ensures.items

pub all_subscripts-offset_bounds-list-expression-index : goal.all_subscripts-offset_bounds-list-expression-index
all_subscripts-offset_bounds-list-expression-index t c = search rules

pub all_subscripts-value_of-requires : goal.all_subscripts-value_of-requires
all_subscripts-value_of-requires t c =
    omega (arith, c.decreases, item_size c.args.list.now c.loop-expression.expression-index c.expression-item.result (omega arith) c.expression-item.is)

pub all_subscripts-returns-in_err-value : goal.all_subscripts-returns-in_err-value
all_subscripts-returns-in_err-value t c =
    exits _ c.from_residual.result c.in_err-value.field-0.0 _ c.from_residual.ensures.1
    (fails_as c.in_err-value.field-0.0 _ _ c.loop-expression.invariant
    (subscript_valueless (naming_in c.args.naming.now) c.args.list.now c.loop-expression.expression-index c.expression-item.result (omega arith) c.expression-item.is
    c.loop-expression.subscripts.items c.in_err-value.field-0.0 c.in_err-value.ensures))

pub all_subscripts-returns-in_err-push : goal.all_subscripts-returns-in_err-push
all_subscripts-returns-in_err-push t c =
    exits _ c.from_residual-in_err-push.result OutOfMemory _ c.from_residual-in_err-push.ensures.1 tt

pub all_subscripts-loop-expression-smaller : goal.all_subscripts-loop-expression-smaller
all_subscripts-loop-expression-smaller t c = search rules

pub all_subscripts-returns : goal.all_subscripts-returns
all_subscripts-returns t c =
    c.loop-expression.invariant
    ∙ subscripts_end (naming_in c.args.naming.now) c.args.list.now c.loop-expression.expression-index (omega arith) c.loop-expression.subscripts.items

-- parts that are joined

pub continued-loop-part-init : goal.continued-loop-part-init
continued-loop-part-init t c = search rules

pub continued-offset_bounds-joined-part-index : goal.continued-offset_bounds-joined-part-index
continued-offset_bounds-joined-part-index t c = search rules

pub continued-loop-part-smaller : goal.continued-loop-part-smaller
continued-loop-part-smaller t c = search rules

pub continued-with_part-requires : goal.continued-with_part-requires
continued-with_part-requires t c =
    omega (arith, c.decreases, part_size c.args.joined.now c.loop-part.part-index c.part-item.result (omega arith) c.part-item.is)

pub continued-returns-in_err-segment : goal.continued-returns-in_err-segment
continued-returns-in_err-segment t c =
    let n = naming_in c.args.naming.now in
    exits _ c.from_residual.result c.in_err-segment.field-0.0 _ c.from_residual.ensures.1
    (fails_as c.in_err-segment.field-0.0 _ _ c.loop-part.invariant
    (part_fails n (segment_view n c.loop-part.segment) c.args.joined.now c.loop-part.part-index c.part-item.result (omega arith) c.part-item.is c.in_err-segment.field-0.0 c.in_err-segment.ensures))

pub continued-loop-part-preserved : goal.continued-loop-part-preserved
continued-loop-part-preserved t c =
    let n = naming_in c.args.naming.now in
    c.loop-part.invariant
    ∙ part_goes_on n (segment_view n c.loop-part.segment) c.args.joined.now c.loop-part.part-index c.part-item.result (omega arith) c.part-item.is
    (segment_view n c.in_ok-segment.segment) c.in_ok-segment.ensures

pub continued-returns : goal.continued-returns
continued-returns t c =
    let n = naming_in c.args.naming.now in
    c.loop-part.invariant
    ∙ parts_end n (segment_view n c.loop-part.segment) c.args.joined.now c.loop-part.part-index (omega arith)

pub all_subscripts-returns-in_err-one : goal.all_subscripts-returns-in_err-one
all_subscripts-returns-in_err-one t c =
    let n = naming_in c.args.naming.now in
    let x = c.expression-item.result in
    let e = c.in_err-one.field-0.0 in
    let v = value_view c.in_ok-value.value in
    exits _ c.from_residual-in_err-one.result e _ c.from_residual-in_err-one.ensures.1
    (fails_as e _ _ c.loop-expression.invariant (subscript_no_number n c.args.list.now c.loop-expression.expression-index x (omega arith) c.expression-item.is c.loop-expression.subscripts.items v e c.in_ok-value.ensures
    (fails_as e _ _ (ap (λ g. typing.subscript_value g (typing.first_token (syntax.expression_view x)) v) (sym c.greatest.ensures.value)) c.in_err-one.ensures)))

pub all_subscripts-loop-expression-preserved : goal.all_subscripts-loop-expression-preserved
all_subscripts-loop-expression-preserved t c =
    let n = naming_in c.args.naming.now in
    let x = c.expression-item.result in
    let v = value_view c.in_ok-value.value in
    c.loop-expression.invariant
    ∙ subscript_goes_on n c.args.list.now c.loop-expression.expression-index x (omega arith) c.expression-item.is c.loop-expression.subscripts.items c.push.new.self.items
    v c.in_ok-one.one c.in_ok-value.ensures
    (ap (λ g. typing.subscript_value g (typing.first_token (syntax.expression_view x)) v) (sym c.greatest.ensures.value) ∙ c.in_ok-one.ensures)
    c.in_ok-push.ensures.items

pub begun-begun_with-requires : goal.begun-begun_with-requires
begun-begun_with-requires t c =
    omega (arith, c.decreases, ap (λ xs. list_size (syntax.expressions_view xs)) c.as_slice.ensures.value, ap (λ o. arguments_size (syntax.arguments_view o)) c.in-Some.is)

pub begun-returns-in-None : goal.begun-returns-in-None
begun-returns-in-None t c =
    let n = naming_in c.args.naming.now in
    ap (λ o. typing.begun n (n.meaning c.args.part.now.name.at) c.args.call (locator_view c.args.locator) c.args.part.now.name.at (syntax.arguments_view o)) c.in-None.is
    ∙ sym c.begun_alone.ensures

pub begun-returns-in-Some : goal.begun-returns-in-Some
begun-returns-in-Some t c =
    let n = naming_in c.args.naming.now in
    gives_as (segment_view n) c.begun_with.result _ _
    (ap (λ o. typing.begun n (n.meaning c.args.part.now.name.at) c.args.call (locator_view c.args.locator) c.args.part.now.name.at (syntax.arguments_view o)) c.in-Some.is
    ∙ sym (ap (λ xs. typing.begun n (n.meaning c.args.part.now.name.at) c.args.call (locator_view c.args.locator) c.args.part.now.name.at (Given (syntax.expressions_view xs))) c.as_slice.ensures.value)) c.begun_with.ensures

pub begun_with-all_subscripts-requires : goal.begun_with-all_subscripts-requires
begun_with-all_subscripts-requires t c =
    omega (arith, c.decreases)

pub begun_with-called-requires : goal.begun_with-called-requires
begun_with-called-requires t c =
    omega (arith, c.decreases)

pub begun_with-all_arguments-requires : goal.begun_with-all_arguments-requires
begun_with-all_arguments-requires t c =
    omega (arith, c.decreases)

pub begun_with-all_arguments-requires-in-Procedure : goal.begun_with-all_arguments-requires-in-Procedure
begun_with-all_arguments-requires-in-Procedure t c =
    omega (arith, c.decreases)

pub begun_with-all_arguments-requires-in-Label : goal.begun_with-all_arguments-requires-in-Label
begun_with-all_arguments-requires-in-Label t c =
    omega (arith, c.decreases)

pub called-all_arguments-requires : goal.called-all_arguments-requires
called-all_arguments-requires t c =
    omega (arith, c.decreases)

pub called-all_arguments-requires-2 : goal.called-all_arguments-requires-2
called-all_arguments-requires-2 t c =
    omega (arith, c.decreases)

pub begun_with-returns-in_err-subscripts-in-Variable : goal.begun_with-returns-in_err-subscripts-in-Variable
begun_with-returns-in_err-subscripts-in-Variable t c =
    let n = naming_in c.args.naming.now in
    let w = n.meaning c.args.at in
    let list = syntax.expressions_view c.args.list.now in
    let e = c.in_err-subscripts-in-Variable.field-0.0 in
    exits _ c.from_residual.result e _ c.from_residual.ensures.1
    (fails_as e _ _ (begun_at_variable n w c.in-Variable.field-0 c.in-Variable.ensures c.args.call (locator_view c.args.locator) c.args.at list) (fails_on e (typing.all_subscripts n list) (λ xs. Ok (of_name w (locator_view c.args.locator) c.args.at xs)) c.in_err-subscripts-in-Variable.ensures))

pub begun_with-returns-in_ok-subscripts-in-Variable : goal.begun_with-returns-in_ok-subscripts-in-Variable
begun_with-returns-in_ok-subscripts-in-Variable t c =
    let n = naming_in c.args.naming.now in
    let w = n.meaning c.args.at in
    let list = syntax.expressions_view c.args.list.now in
    begun_at_variable n w c.in-Variable.field-0 c.in-Variable.ensures c.args.call (locator_view c.args.locator) c.args.at list
    ∙ bind_ok (typing.all_subscripts n list) (map expression_view c.in_ok-subscripts-in-Variable.subscripts.items) (λ xs. Ok (of_name w (locator_view c.args.locator) c.args.at xs)) c.in_ok-subscripts-in-Variable.ensures

pub begun_with-returns-in_err-value-in-Function : goal.begun_with-returns-in_err-value-in-Function
begun_with-returns-in_err-value-in-Function t c =
    let n = naming_in c.args.naming.now in
    let w = n.meaning c.args.at in
    let list = syntax.expressions_view c.args.list.now in
    let e = c.in_err-value-in-Function.field-0.0 in
    exits _ c.from_residual-in_err-value-in-Function.result e _ c.from_residual-in_err-value-in-Function.ensures.1
    (fails_as e _ _ (ap (λ k. typing.begun n w k (locator_view c.args.locator) c.args.at (Given list)) c.if-call.true
    ∙ begun_at_function n w c.in-Function.function c.in-Function.ensures (locator_view c.args.locator) c.args.at list) (fails_on e (function_typed n c.in-Function.function c.args.at list) (λ v. Ok (typing.given_by c.in-Function.function v)) c.in_err-value-in-Function.ensures))

pub begun_with-returns-then-call : goal.begun_with-returns-then-call
begun_with-returns-then-call t c =
    let n = naming_in c.args.naming.now in
    let w = n.meaning c.args.at in
    let list = syntax.expressions_view c.args.list.now in
    ap (λ k. typing.begun n w k (locator_view c.args.locator) c.args.at (Given list)) c.if-call.true
    ∙ begun_at_function n w c.in-Function.function c.in-Function.ensures (locator_view c.args.locator) c.args.at list
    ∙ bind_ok (function_typed n c.in-Function.function c.args.at list) (value_view c.in_ok-value-in-Function.value) (λ v. Ok (typing.given_by c.in-Function.function v)) c.in_ok-value-in-Function.ensures
    ∙ ap (λ s. Ok s) (sym (c.given.ensures n))

pub begun_with-returns-in_err-all_arguments-in-Function : goal.begun_with-returns-in_err-all_arguments-in-Function
begun_with-returns-in_err-all_arguments-in-Function t c =
    let n = naming_in c.args.naming.now in
    let w = n.meaning c.args.at in
    let list = syntax.expressions_view c.args.list.now in
    let e = c.in_err-all_arguments-in-Function.field-0.0 in
    exits _ c.from_residual-in_err-all_arguments-in-Function.result e _ c.from_residual-in_err-all_arguments-in-Function.ensures.1
    (fails_as e _ _ (ap (λ k. typing.begun n w k (locator_view c.args.locator) c.args.at (Given list)) c.if-call.false
    ∙ begun_beside_function n w c.in-Function.function c.in-Function.ensures (locator_view c.args.locator) c.args.at list) (fails_on e (typing.all_arguments n [] list) (λ gs. Ok (of_name w NotLocated c.args.at [])) c.in_err-all_arguments-in-Function.ensures))

pub begun_with-returns-in_ok-all_arguments-in-Function : goal.begun_with-returns-in_ok-all_arguments-in-Function
begun_with-returns-in_ok-all_arguments-in-Function t c =
    let n = naming_in c.args.naming.now in
    let w = n.meaning c.args.at in
    let list = syntax.expressions_view c.args.list.now in
    ap (λ k. typing.begun n w k (locator_view c.args.locator) c.args.at (Given list)) c.if-call.false
    ∙ begun_beside_function n w c.in-Function.function c.in-Function.ensures (locator_view c.args.locator) c.args.at list
    ∙ bind_ok (typing.all_arguments n [] list) (map argument_view c.in_ok-all_arguments-in-Function.field-0.items) (λ gs. Ok (of_name w NotLocated c.args.at [])) c.in_ok-all_arguments-in-Function.ensures
    ∙ ap (λ s. Ok s) (sym (c.named.ensures n))

pub begun_with-returns-else-call-2 : goal.begun_with-returns-else-call-2
begun_with-returns-else-call-2 t c =
    let n = naming_in c.args.naming.now in
    let w = n.meaning c.args.at in
    let list = syntax.expressions_view c.args.list.now in
    ap (λ k. typing.begun n w k (locator_view c.args.locator) c.args.at (Given list)) c.if-call-2.false
    ∙ begun_beside_procedure n w c.in-Procedure.procedure c.in-Procedure.ensures (locator_view c.args.locator) c.args.at list
    ∙ bind_ok (typing.all_arguments n [] list) (map argument_view c.in_ok-arguments-in-Procedure.arguments.items) (λ gs. Ok (of_name w NotLocated c.args.at [])) c.in_ok-arguments-in-Procedure.ensures
    ∙ ap (λ s. Ok s) (sym (c.named-in-Procedure.ensures n))

pub begun_with-returns-in_err-arguments-in-Procedure : goal.begun_with-returns-in_err-arguments-in-Procedure
begun_with-returns-in_err-arguments-in-Procedure t c =
    let n = naming_in c.args.naming.now in
    let w = n.meaning c.args.at in
    let list = syntax.expressions_view c.args.list.now in
    let e = c.in_err-arguments-in-Procedure.field-0.0 in
    exits _ c.from_residual-in_err-arguments-in-Procedure.result e _ c.from_residual-in_err-arguments-in-Procedure.ensures.1
    (procedure_unmeant n w c.in-Procedure.procedure c.in-Procedure.ensures c.args.call (locator_view c.args.locator) c.args.at list e c.in_err-arguments-in-Procedure.ensures)

pub begun_with-returns-then-call-2 : goal.begun_with-returns-then-call-2
begun_with-returns-then-call-2 t c =
    let n = naming_in c.args.naming.now in
    let w = n.meaning c.args.at in
    let list = syntax.expressions_view c.args.list.now in
    let gs = map argument_view c.in_ok-arguments-in-Procedure.arguments.items in
    let result = c.procedure_called.result in
    gives_as (segment_view n) result _ _ (ap (λ k. typing.begun n w k (locator_view c.args.locator) c.args.at (Given list)) c.if-call-2.true)
    (call_given (segment_view n) result n w c.in-Procedure.procedure c.in-Procedure.ensures (locator_view c.args.locator) c.args.at list gs c.in_ok-arguments-in-Procedure.ensures
    c.procedure_called.ensures)

pub called-returns-in_err-all_arguments : goal.called-returns-in_err-all_arguments
called-returns-in_err-all_arguments t c =
    let n = naming_in c.args.naming.now in
    let xs = c.args.list.now in
    let no : calls.roles_of c.args.function (length xs) ≡ None = search rules in
    let e = c.in_err-all_arguments.field-0.0 in
    exits _ c.from_residual.result e _ c.from_residual.ensures.1
    (call_unmeant n c.args.function c.args.at xs None no e c.in_err-all_arguments.ensures)

pub called-returns-in_default : goal.called-returns-in_default
called-returns-in_default t c =
    let n = naming_in c.args.naming.now in
    let xs = c.args.list.now in
    let no : calls.roles_of c.args.function (length xs) ≡ None = search rules in
    rw c.fault.ensures (call_typed n c.args.function c.args.at xs None no (map argument_view c.in_ok-all_arguments.field-0.items) c.in_ok-all_arguments.ensures)

pub called-returns-in_err-arguments : goal.called-returns-in_err-arguments
called-returns-in_err-arguments t c =
    let n = naming_in c.args.naming.now in
    let xs = c.args.list.now in
    let given : calls.roles_of c.args.function (length xs) ≡ Some (map role_view c.in-Some.roles.now) = search rules in
    let e = c.in_err-arguments.field-0.0 in
    exits _ c.from_residual-in_err-arguments.result e _ c.from_residual-in_err-arguments.ensures.1
    (call_unmeant n c.args.function c.args.at xs (Some (map role_view c.in-Some.roles.now)) given e c.in_err-arguments.ensures)

pub called-returns : goal.called-returns
called-returns t c =
    let n = naming_in c.args.naming.now in
    let xs = c.args.list.now in
    let given : calls.roles_of c.args.function (length xs) ≡ Some (map role_view c.in-Some.roles.now) = search rules in
    let gs = map argument_view c.in_ok-arguments.arguments.items in
    gives_as value_view c.function_called.result _ _
    (call_typed n c.args.function c.args.at xs (Some (map role_view c.in-Some.roles.now)) given gs c.in_ok-arguments.ensures
    ∙ ap (λ g. steps.or_bad_argument c.args.at (calls.of_arguments g c.args.function gs)) (sym c.greatest.ensures.value)) c.function_called.ensures

pub subscripts_in-all_subscripts-requires : goal.subscripts_in-all_subscripts-requires
subscripts_in-all_subscripts-requires t c =
    omega (arith, c.decreases, ap (λ xs. list_size (syntax.expressions_view xs)) c.as_slice.ensures.value, ap (λ o. arguments_size (syntax.arguments_view o)) c.in-Some.is)

pub subscripts_in-returns-in-None : goal.subscripts_in-returns-in-None
subscripts_in-returns-in-None t c =
    let n = naming_in c.args.naming.now in
    ap (λ o. typing.subscripts_in n (syntax.arguments_view o)) c.in-None.is ∙ ap (λ xs. Ok (map expression_view xs)) (sym c.new.ensures.items)

pub subscripts_in-returns-in-Some : goal.subscripts_in-returns-in-Some
subscripts_in-returns-in-Some t c =
    let n = naming_in c.args.naming.now in
    gives_as (λ (v : Vec TypedExpression Global). map expression_view v.items) c.all_subscripts.result _ _
    (ap (λ o. typing.subscripts_in n (syntax.arguments_view o)) c.in-Some.is ∙ sym (ap (λ xs. typing.all_subscripts n (syntax.expressions_view xs)) c.as_slice.ensures.value)) c.all_subscripts.ensures

pub with_part-subscripts_in-requires : goal.with_part-subscripts_in-requires
with_part-subscripts_in-requires t c =
    omega (arith, c.decreases)

pub with_part-begun-requires : goal.with_part-begun-requires
with_part-begun-requires t c =
    omega (arith, c.decreases)

pub with_part-returns-in-Err : goal.with_part-returns-in-Err
with_part-returns-in-Err t c =
    let n = naming_in c.args.naming.now in
    let s = segment_view n c.args.segment in
    let name = c.args.joined.now.part.name in
    let given = syntax.arguments_view c.args.joined.now.part.arguments in
    let e = c.in-Err.error in
    fails_as e _ _ (ap (λ j. next_segment n s j name given) c.in-Member.is) (fails_on e (typing.subscripts_in n given) (λ xs. Ok (typing.with_more s xs)) c.in-Err.ensures)

pub with_part-returns-in_err-longer-in-Member : goal.with_part-returns-in_err-longer-in-Member
with_part-returns-in_err-longer-in-Member t c =
    exits _ c.from_residual.result OutOfMemory _ c.from_residual.ensures.1 tt

pub with_part-returns-in_ok-longer-in-Member : goal.with_part-returns-in_ok-longer-in-Member
with_part-returns-in_ok-longer-in-Member t c =
    let n = naming_in c.args.naming.now in
    let s = segment_view n c.args.segment in
    let name = c.args.joined.now.part.name in
    let given = syntax.arguments_view c.args.joined.now.part.arguments in
    let xs = map expression_view c.in-Ok.more.items in
    ap (λ j. next_segment n s j name given) c.in-Member.is
    ∙ bind_ok (typing.subscripts_in n given) xs (λ xs. Ok (typing.with_more s xs)) c.in-Ok.ensures ∙ ap (λ t. Ok t) (sym (c.in_ok-longer-in-Member.ensures n))

pub with_part-returns-in_err-denoted-in-Located : goal.with_part-returns-in_err-denoted-in-Located
with_part-returns-in_err-denoted-in-Located t c =
    let n = naming_in c.args.naming.now in
    let s = segment_view n c.args.segment in
    let name = c.args.joined.now.part.name in
    let given = syntax.arguments_view c.args.joined.now.part.arguments in
    let e = c.in_err-denoted-in-Located.field-0.0 in
    exits _ c.from_residual-in_err-denoted-in-Located.result e _ c.from_residual-in_err-denoted-in-Located.ensures.1
    (fails_as e _ _ (ap (λ j. next_segment n s j name given) c.in-Located.is) (fails_on e (typing.ended AsLocator s) (λ l. typing.begun n (n.meaning name.at) false (typing.as_locator l) name.at given) c.in_err-denoted-in-Located.ensures))

pub with_part-returns-in_err-locator-in-Located : goal.with_part-returns-in_err-locator-in-Located
with_part-returns-in_err-locator-in-Located t c =
    exits _ c.from_residual-in_err-locator-in-Located.result OutOfMemory _ c.from_residual-in_err-locator-in-Located.ensures.1 tt

pub with_part-returns-in_ok-locator-in-Located : goal.with_part-returns-in_ok-locator-in-Located
with_part-returns-in_ok-locator-in-Located t c =
    let n = naming_in c.args.naming.now in
    let s = segment_view n c.args.segment in
    let name = c.args.joined.now.part.name in
    let given = syntax.arguments_view c.args.joined.now.part.arguments in
    gives_as (segment_view n) c.begun.result _ _
    (ap (λ j. next_segment n s j name given) c.in-Located.is
    ∙ bind_ok (typing.ended AsLocator s) (denoted_view c.in_ok-denoted-in-Located.denoted) (λ l. typing.begun n (n.meaning name.at) false (typing.as_locator l) name.at given) c.in_ok-denoted-in-Located.ensures
    ∙ ap (λ l. typing.begun n (n.meaning name.at) false l name.at given) (sym c.in_ok-locator-in-Located.ensures))
    c.begun.ensures

pub referred-begun-requires : goal.referred-begun-requires
referred-begun-requires t c =
    let r = c.args.reference.now in
    omega (arith, c.decreases, ap reference_size (reference_out r))

pub referred-continued-requires : goal.referred-continued-requires
referred-continued-requires t c =
    let r = c.args.reference.now in
    omega (arith, c.decreases, ap reference_size (reference_out r), ap (λ xs. parts_size (syntax.joined_view xs)) c.as_slice-joined.ensures.value)

pub referred-returns-in_err-first : goal.referred-returns-in_err-first
referred-returns-in_err-first t c =
    exits _ c.from_residual.result c.in_err-first.field-0.0 _ c.from_residual.ensures.1
    (written_unbegun (naming_in c.args.naming.now) (role_view c.args.role) c.args.reference.now c.as_slice-joined.result.now c.is_call-call.result c.as_slice-joined.ensures.value c.is_call-call.ensures
    c.in_err-first.field-0.0 c.in_err-first.ensures)

pub referred-returns-in_err-last : goal.referred-returns-in_err-last
referred-returns-in_err-last t c =
    let n = naming_in c.args.naming.now in
    exits _ c.from_residual-in_err-last.result c.in_err-last.field-0.0 _ c.from_residual-in_err-last.ensures.1
    (written_unended n (role_view c.args.role) c.args.reference.now c.as_slice-joined.result.now c.is_call-call.result c.as_slice-joined.ensures.value c.is_call-call.ensures
    (segment_view n c.in_ok-first.first) c.in_err-last.field-0.0 c.in_ok-first.ensures c.in_err-last.ensures)

pub referred-returns : goal.referred-returns
referred-returns t c =
    let n = naming_in c.args.naming.now in
    gives_as denoted_view c.ended.result _ _
    (written_ends n (role_view c.args.role) c.args.reference.now c.as_slice-joined.result.now c.is_call-call.result c.as_slice-joined.ensures.value c.is_call-call.ensures
    (segment_view n c.in_ok-first.first) (segment_view n c.in_ok-last.last) c.in_ok-first.ensures c.in_ok-last.ensures)
    c.ended.ensures

pub value_of-infixed-requires : goal.value_of-infixed-requires
value_of-infixed-requires t c =
    let size = λ (e : Expression). expression_size (syntax.expression_view e) in
    omega (arith, c.decreases, ap size c.in-Infix.is, ap size c.deref.ensures, ap size c.deref-in-Infix.ensures)

pub value_of-returns-in-Infix : goal.value_of-returns-in-Infix
value_of-returns-in-Infix t c =
    let n = naming_in c.args.naming.now in
    let b = c.in-Infix in
    gives_as value_view c.infixed.result _ _
    (ap (λ e. typing.value_of n (syntax.expression_view e)) b.is
    ∙ infix_valued n b.operator b.at (syntax.expression_view b.left.value) (syntax.expression_view b.right.value)
    ∙ ap (λ (e : Expression). infixed n b.operator b.at (syntax.expression_view e) (syntax.expression_view b.right.value)) (sym c.deref.ensures)
    ∙ ap (λ (e : Expression). infixed n b.operator b.at (syntax.expression_view c.deref.result.now) (syntax.expression_view e)) (sym c.deref-in-Infix.ensures))
    c.infixed.ensures

pub value_denoted-denoted-requires : goal.value_denoted-denoted-requires
value_denoted-denoted-requires t c =
    omega (arith, c.decreases)

pub value_denoted-returns-in_err-denoted : goal.value_denoted-returns-in_err-denoted
value_denoted-returns-in_err-denoted t c =
    let e = c.in_err-denoted.field-0.0 in
    let x = syntax.expression_view c.args.expression.now in
    exits _ c.from_residual.result e _ c.from_residual.ensures.1
    (fails_on e (typing.denoted (naming_in c.args.naming.now) AsValue x) (λ d. typing.one_value (typing.first_token x) (calls.meant_as d)) c.in_err-denoted.ensures)

pub value_denoted-returns : goal.value_denoted-returns
value_denoted-returns t c =
    let n = naming_in c.args.naming.now in
    let x = syntax.expression_view c.args.expression.now in
    gives_as value_view c.one_value.result _ _
    (bind_ok (typing.denoted n AsValue x) (denoted_view c.in_ok-denoted.denoted) (λ d. typing.one_value (typing.first_token x) (calls.meant_as d)) c.in_ok-denoted.ensures
    ∙ ap (typing.one_value (typing.first_token x)) (sym c.as_expression.ensures)) c.one_value.ensures

pub denoted-referred-requires : goal.denoted-referred-requires
denoted-referred-requires t c =
    omega (arith, c.decreases, ap (λ e. expression_size (syntax.expression_view e)) c.in-Reference.is)

pub denoted-returns-in-Reference : goal.denoted-returns-in-Reference
denoted-returns-in-Reference t c =
    let n = naming_in c.args.naming.now in
    let role = role_view c.args.role in
    gives_as denoted_view c.referred.result _ _ (ap (λ e. typing.denoted n role (syntax.expression_view e)) c.in-Reference.is) c.referred.ensures

pub denoted-returns-in_err-literal-in-Constant : goal.denoted-returns-in_err-literal-in-Constant
denoted-returns-in_err-literal-in-Constant t c =
    exits _ c.from_residual.result OutOfMemory _ c.from_residual.ensures.1 tt

pub denoted-returns-in_ok-literal-in-Constant : goal.denoted-returns-in_ok-literal-in-Constant
denoted-returns-in_ok-literal-in-Constant t c =
    let n = naming_in c.args.naming.now in
    let role = role_view c.args.role in
    ap (λ e. typing.denoted n role (syntax.expression_view e)) c.in-Constant.is
    ∙ ap (λ g. Ok (calls.DenotesResult (types.constant g c.in-Constant.value))) (sym c.greatest.ensures.value)
    ∙ ap (λ v. Ok (calls.DenotesResult v)) (sym c.in_ok-literal-in-Constant.ensures)

pub denoted-value_of-requires : goal.denoted-value_of-requires
denoted-value_of-requires t c =
    omega (arith, c.decreases, ap (λ e. expression_size (syntax.expression_view e)) c.in-Parenthesized.is, ap (λ e. expression_size (syntax.expression_view e)) c.deref.ensures)

pub denoted-returns-in_err-value-in-Parenthesized : goal.denoted-returns-in_err-value-in-Parenthesized
denoted-returns-in_err-value-in-Parenthesized t c =
    let n = naming_in c.args.naming.now in
    let role = role_view c.args.role in
    let b = c.in-Parenthesized in
    let here = λ (e : Expression). typing.value_of n (syntax.expression_view e) in
    let e = c.in_err-value-in-Parenthesized.field-0.0 in
    exits _ c.from_residual-in_err-value-in-Parenthesized.result e _ c.from_residual-in_err-value-in-Parenthesized.ensures.1
    (fails_as e _ _ (ap (λ e. typing.denoted n role (syntax.expression_view e)) b.is) (parenthesized_unmeant n role b.at (syntax.expression_view b.inner.value) e (fails_as e _ _ (sym (ap here c.deref.ensures)) c.in_err-value-in-Parenthesized.ensures)))

pub denoted-returns-in_ok-value-in-Parenthesized : goal.denoted-returns-in_ok-value-in-Parenthesized
denoted-returns-in_ok-value-in-Parenthesized t c =
    let n = naming_in c.args.naming.now in
    let role = role_view c.args.role in
    let b = c.in-Parenthesized in
    let here = λ (e : Expression). typing.value_of n (syntax.expression_view e) in
    ap (λ e. typing.denoted n role (syntax.expression_view e)) b.is
    ∙ parenthesized_typed n role b.at (syntax.expression_view b.inner.value) (value_view c.in_ok-value-in-Parenthesized.value) (sym (ap here c.deref.ensures) ∙ c.in_ok-value-in-Parenthesized.ensures)

pub denoted-prefixed-requires : goal.denoted-prefixed-requires
denoted-prefixed-requires t c =
    omega (arith, c.decreases, ap (λ e. expression_size (syntax.expression_view e)) c.in-Prefix.is, ap (λ e. expression_size (syntax.expression_view e)) c.deref-in-Prefix.ensures)

pub denoted-returns-in-Prefix : goal.denoted-returns-in-Prefix
denoted-returns-in-Prefix t c =
    let n = naming_in c.args.naming.now in
    let role = role_view c.args.role in
    let b = c.in-Prefix in
    gives_as denoted_view c.prefixed.result _ _
    (ap (λ e. typing.denoted n role (syntax.expression_view e)) b.is
    ∙ ap (λ (e : Expression). prefixed n b.operator b.at (syntax.expression_view e)) (sym c.deref-in-Prefix.ensures))
    c.prefixed.ensures

pub denoted-value_of-requires-in-Infix : goal.denoted-value_of-requires-in-Infix
denoted-value_of-requires-in-Infix t c =
    omega (arith, c.decreases, ap (λ e. expression_size (syntax.expression_view e)) c.in-Infix.is, ap (λ e. expression_size (syntax.expression_view e)) c.deref-in-Infix.ensures)

pub denoted-value_of-requires-in-Infix-2 : goal.denoted-value_of-requires-in-Infix-2
denoted-value_of-requires-in-Infix-2 t c =
    omega (arith, c.decreases, ap (λ e. expression_size (syntax.expression_view e)) c.in-Infix.is, ap (λ e. expression_size (syntax.expression_view e)) c.deref-in-Infix-2.ensures)

pub denoted-returns-in_err-left_value-in-Infix : goal.denoted-returns-in_err-left_value-in-Infix
denoted-returns-in_err-left_value-in-Infix t c =
    let n = naming_in c.args.naming.now in
    let role = role_view c.args.role in
    let b = c.in-Infix in
    let left = syntax.expression_view b.left.value in
    let right = syntax.expression_view b.right.value in
    let here = λ (e : Expression). typing.value_of n (syntax.expression_view e) in
    let e = c.in_err-left_value-in-Infix.field-0.0 in
    exits _ c.from_residual-in_err-left_value-in-Infix.result e _ c.from_residual-in_err-left_value-in-Infix.ensures.1
    (fails_as e _ _ (ap (λ e. typing.denoted n role (syntax.expression_view e)) b.is)
    (left_unmeant n role b.operator b.at left right e (fails_as e _ _ (sym (ap here c.deref-in-Infix.ensures)) c.in_err-left_value-in-Infix.ensures)))

pub denoted-returns-in-Err : goal.denoted-returns-in-Err
denoted-returns-in-Err t c =
    let n = naming_in c.args.naming.now in
    let role = role_view c.args.role in
    let b = c.in-Infix in
    let left = syntax.expression_view b.left.value in
    let right = syntax.expression_view b.right.value in
    let here = λ (e : Expression). typing.value_of n (syntax.expression_view e) in
    let v = value_view c.in_ok-left_value-in-Infix.left_value in
    let e = c.in-Err.error in
    fails_as e _ _ (ap (λ e. typing.denoted n role (syntax.expression_view e)) b.is)
    (right_unmeant n role b.operator b.at left right v e (sym (ap here c.deref-in-Infix.ensures) ∙ c.in_ok-left_value-in-Infix.ensures) (fails_as e _ _ (sym (ap here c.deref-in-Infix-2.ensures)) c.in-Err.ensures))

pub denoted-returns-in_err-combined-in-Infix : goal.denoted-returns-in_err-combined-in-Infix
denoted-returns-in_err-combined-in-Infix t c =
    let n = naming_in c.args.naming.now in
    let role = role_view c.args.role in
    let b = c.in-Infix in
    let left = syntax.expression_view b.left.value in
    let right = syntax.expression_view b.right.value in
    let here = λ (e : Expression). typing.value_of n (syntax.expression_view e) in
    let v = value_view c.in_ok-left_value-in-Infix.left_value in
    let w = value_view c.in-Ok.value in
    let e = c.in_err-combined-in-Infix.field-0.0 in
    exits _ c.from_residual-in_err-combined-in-Infix.result e _ c.from_residual-in_err-combined-in-Infix.ensures.1
    (fails_as e _ _ (ap (λ e. typing.denoted n role (syntax.expression_view e)) b.is)
    (infix_refused n role b.operator b.at left right v w e (sym (ap here c.deref-in-Infix.ensures) ∙ c.in_ok-left_value-in-Infix.ensures)
    (sym (ap here c.deref-in-Infix-2.ensures) ∙ c.in-Ok.ensures)
    (fails_as e _ _ (ap (λ g. typing.or_fault WrongOperandType b.at (types.infix_value g b.operator v w)) (sym c.greatest-in-Infix.ensures.value)) c.in_err-combined-in-Infix.ensures)))

pub denoted-returns-in_ok-combined-in-Infix : goal.denoted-returns-in_ok-combined-in-Infix
denoted-returns-in_ok-combined-in-Infix t c =
    let n = naming_in c.args.naming.now in
    let role = role_view c.args.role in
    let b = c.in-Infix in
    let left = syntax.expression_view b.left.value in
    let right = syntax.expression_view b.right.value in
    let here = λ (e : Expression). typing.value_of n (syntax.expression_view e) in
    let v = value_view c.in_ok-left_value-in-Infix.left_value in
    let w = value_view c.in-Ok.value in
    ap (λ e. typing.denoted n role (syntax.expression_view e)) b.is
    ∙ infix_typed n role b.operator b.at left right v w (value_view c.in_ok-combined-in-Infix.combined) (sym (ap here c.deref-in-Infix.ensures) ∙ c.in_ok-left_value-in-Infix.ensures)
    (sym (ap here c.deref-in-Infix-2.ensures) ∙ c.in-Ok.ensures)
    (ap (λ g. typing.or_fault WrongOperandType b.at (types.infix_value g b.operator v w)) (sym c.greatest-in-Infix.ensures.value) ∙ c.in_ok-combined-in-Infix.ensures)
