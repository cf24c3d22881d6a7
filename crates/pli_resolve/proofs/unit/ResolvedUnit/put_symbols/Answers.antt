use Rattle.std.proofs.Common.{◌+◌, ◌++◌, ◌∷◌, [], None, drop, map, ap, sym, ◌∙◌}
use Rattle.std.proofs.lemmas.List.{append_assoc, drop_more, map-append}
use Rattle.std.specs.Global.{Vec}
use Rattle.pli_base.specs.views.StatementView.{unit_view}
use Rattle.pli_declare.specs.declared.block_numbers.BlockRegion.{BlockRegion}
use Rattle.pli_declare.specs.declared.block_numbers.ResolvedBlockKind.TheVariants.{Procedure}
use Rattle.pli_declare.specs.declared.symbol.Symbol.{Symbol}
use Rattle.pli_declare.specs.views.SymbolView.{symbol_view}
use Rattle.pli_resolve.specs.views.UnitView.{rows_view}
use Rattle.pli_resolve.proofs.SymbolsAt.{symbols_in}
use Rattle.pli_resolve.proofs.unit.ResolvedUnit.put_symbols.Goals as goal

pub loop-block-preserved : goal.loop-block-preserved
loop-block-preserved c =
    let l = c.loop-block in
    let of_block = symbols_in (unit_view c.args.self.now) in
    let blocks = c.args.blocks.now in
    let none : BlockRegion = record { region = 0; kind = Procedure; outer = None } in
    let made = l.made.items in
    let row = c.in_ok-symbols_in.field-0 in
    let left = map of_block (drop (l.block-index + 1) blocks) in
    ap (λ xs. rows_view xs ++ left) c.in_ok-push.ensures.items
    ∙ ap (λ xs. xs ++ left) (map-append (λ (v : Vec Symbol). map symbol_view v.items) made (row ∷ []))
    ∙ append_assoc (rows_view made) (map symbol_view row.items ∷ []) left
    ∙ ap (λ x. rows_view made ++ x ∷ left) c.in_ok-symbols_in.ensures
    ∙ ap (λ bs. rows_view made ++ map of_block bs) (sym (drop_more blocks l.block-index none c.loop-block-test.true))
    ∙ l.invariant
