use Rattle.std.proofs.Common.{◌++◌, ◌∷◌, [], map, arith, sym, append_assoc}
use Rattle.pli_program.specs.declared.instruction.Instruction.TheVariants as op
use Rattle.pli_type_tree.specs.views.TypedView.{expression_view}
use Rattle.pli_gen_emit.specs.TreeTranslation.{value_code, items_code}
use Rattle.pli_gen_emit.proofs.EmitLemmas.{emits_both, amid_next}
use Rattle.pli_gen_emit.proofs.simple.emit_items.Goals as goal

pub loop-item-preserved : goal.loop-item-preserved
loop-item-preserved c =
    let put = op.Put ∷ [] in
    let x = c.item-item.result in
    amid_next (λ xs. items_code (map expression_view xs)) (λ x. value_code (expression_view x) ++ put) c.args.code.now c.loop-item.code c.emit.new.self
    c.args.items.now c.loop-item.item-index x (items_code (map expression_view c.args.items.now))
    (λ x ys. sym (append_assoc (value_code (expression_view x)) put (items_code (map expression_view ys)))) (omega arith) c.item-item.is
    (emits_both c.loop-item.code c.emit_value.new.code c.emit.new.self (value_code (expression_view x)) put c.emit_value.ensures c.emit.ensures)
    c.loop-item.invariant
