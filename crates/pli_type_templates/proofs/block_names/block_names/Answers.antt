use Rattle.std.proofs.Common.{◌≡◌, ◌+◌, ◌++◌, ◌∷◌, [], drop, map, ap, sym, ◌∙◌}
use Rattle.std.proofs.lemmas.List.{append_assoc, drop_more, map-append}
use Rattle.std.proofs.lemmas.List.Elements.{All-push, All-same}
use Rattle.pli_resolve.specs.views.UnitView.{rows_view}
use Rattle.pli_type_templates.specs.views.BlockView.{AreKnown, block_symbols}
use Rattle.pli_type_templates.proofs.block_names.block_names.Goals as goal

pub loop-row-preserved : goal.loop-row-preserved
loop-row-preserved c =
    let l = c.loop-row in
    let rows = c.args.symbols.now in
    let row = c.row-item.result in
    let made = l.made.items in
    let b = c.in_ok-names_in.field-0 in
    let left = rows_view (drop (l.row-index + 1) rows) in
    let step = drop_more rows l.row-index row c.loop-row-test.true ∙ ap (λ x. x ∷ drop (l.row-index + 1) rows) (sym c.row-item.is) in
    record {
      symbols = ap (λ xs. map block_symbols xs ++ left) c.in_ok-push.ensures.items
          ∙ ap (λ xs. xs ++ left) (map-append block_symbols made (b ∷ []))
          ∙ append_assoc (map block_symbols made) (block_symbols b ∷ []) left
          ∙ ap (λ x. map block_symbols made ++ x ∷ left) c.in_ok-names_in.ensures.symbols
          ∙ ap (λ xs. map block_symbols made ++ rows_view xs) (sym step)
          ∙ l.invariant.symbols;
      known = All-same AreKnown c.push.new.self.items (made ++ b ∷ []) c.in_ok-push.ensures.items
          (All-push AreKnown made b l.invariant.known c.in_ok-names_in.ensures.known);
    }
