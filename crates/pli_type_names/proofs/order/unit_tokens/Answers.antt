use Rattle.std.proofs.Common.{◌≡◌, ◌+◌, ◌++◌, ◌∷◌, drop, map, ap, sym, ◌∙◌}
use Rattle.std.proofs.lemmas.List.{append_assoc, drop_more}
use Rattle.pli_declare.specs.views.SymbolView.{symbol_view}
use Rattle.pli_resolve.specs.views.UnitView.{rows_view}
use Rattle.pli_type_rules.specs.NamedUnits.{all_tokens, global_tokens}
use Rattle.pli_type_names.proofs.order.unit_tokens.Goals as goal

pub loop-row-preserved : goal.loop-row-preserved
loop-row-preserved c =
    let l = c.loop-row in
    let rows = c.args.symbols.now in
    let row = c.row-item.result in
    let tokens = l.tokens.items in
    let others = drop (l.row-index + 1) rows in
    let step = drop_more rows l.row-index row c.loop-row-test.true ∙ ap (λ x. x ∷ others) (sym c.row-item.is) in
    let left = all_tokens 63 (rows_view others) in
    ap (λ ts. ts ++ left) (c.in_ok-put_tokens.ensures ∙ ap (λ ss. tokens ++ global_tokens 63 (map symbol_view ss)) c.deref.ensures.value)
    ∙ append_assoc tokens (global_tokens 63 (map symbol_view row.items)) left
    ∙ ap (λ xs. tokens ++ all_tokens 63 (rows_view xs)) (sym step)
    ∙ l.invariant
