use Rattle.std.proofs.Common.{◌≡◌, ◌++◌, ◌∷◌, [], map, ap, sym, ◌∙◌}
use Rattle.std.proofs.lemmas.List.{map-append}
use Rattle.std.specs.Global.{Vec}
use Rattle.pli_base.specs.declared.statement.Procedure.{Procedure}
use Rattle.pli_base.specs.views.StatementView.{unit_view}
use Rattle.pli_declare.specs.ResolvedUnits.{block_regions_of, resolved_unit_of}
use Rattle.pli_declare.specs.declared.symbol.Symbol.{Symbol}
use Rattle.pli_declare.specs.views.SymbolView.{symbol_view}
use Rattle.pli_resolve.specs.views.UnitView.{rows_view}
use Rattle.pli_resolve.proofs.SymbolsAt.{symbols_in, twice}
use Rattle.pli_resolve.proofs.unit.ResolvedUnit.symbols.Goals as goal

pub returns : goal.returns
returns c =
    let u = unit_view c.args.self.now in
    let of_block = symbols_in u in
    let blocks = c.as_slice-blocks.result.now in
    let last = c.in_ok-outermost_symbols.field-0 in
    let blocks_are : blocks ≡ block_regions_of u =
    c.as_slice-blocks.ensures.value ∙ c.self.invariant.are_tables.regions_are.blocks_are
    ∙ ap (λ (p : Procedure). block_regions_of (unit_view p)) c.self.view_is in
    ap rows_view c.in_ok-push.ensures.items
    ∙ map-append (λ (v : Vec Symbol). map symbol_view v.items) c.put_symbols.new.made.items (last ∷ [])
    ∙ ap (λ xs. xs ++ map symbol_view last.items ∷ [])
    (c.in_ok-put_symbols.ensures ∙ ap (λ xs. rows_view xs ++ map of_block blocks) c.in_ok-made.ensures.items ∙ ap (map of_block) blocks_are)
    ∙ ap (λ x. map of_block (block_regions_of u) ++ x ∷ []) c.in_ok-outermost_symbols.ensures
    ∙ ap (λ xs. xs ++ (resolved_unit_of u).outermost ∷ []) (sym (twice u (block_regions_of u)))
