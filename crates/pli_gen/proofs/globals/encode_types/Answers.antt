use Rattle.std.proofs.Common.{◌++◌, ◌∷◌, [], map, ap, ◌∙◌, refl, arith}
use Rattle.pli_map.specs.views.ParameterView.{type_view}
use Rattle.pli_gen_emit.proofs.LoopLemmas.{more_mapped}
use Rattle.pli_gen_emit.specs.Encoding.{description_number}
use Rattle.pli_gen_emit.specs.views.TableView.{tables_view}
use Rattle.pli_gen.proofs.globals.encode_types.Goals as goal

pub loop-parameter-preserved : goal.loop-parameter-preserved
loop-parameter-preserved c =
    let number = description_number (tables_view c.args.numbers.tables.now) in
    let before = c.loop-parameter.list.items in
    more_mapped (λ ds. map number (map type_view ds)) (λ d. number (type_view d)) (λ x xs. refl)
    c.args.types.now c.loop-parameter.parameter-index c.parameter-item.result before _ _ (omega arith)
    (c.in_ok-push.ensures.items ∙ ap (λ x. before ++ x ∷ []) (c.of_type.ensures ∙ ap number c.lent.ensures ∙ ap (λ d. number (type_view d)) c.parameter-item.is))
    c.loop-parameter.invariant
