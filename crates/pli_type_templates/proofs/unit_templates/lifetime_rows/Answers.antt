use Rattle.std.proofs.Common.{List, map, sym, subst}
use Rattle.std.specs.List.{All}
use Rattle.pli_declare.specs.declared.symbol.Symbol.{Symbol}
use Rattle.pli_declare.specs.views.SymbolView.{symbol_view}
use Rattle.pli_type_templates.specs.ItemNames.{AreOfItems}
use Rattle.pli_type_templates.specs.views.BlockView.{block_symbols}
use Rattle.pli_type_templates.specs.views.NumberView.{marks_of}
use Rattle.pli_type_templates.proofs.UnitsMade.{all_mapped}
use Rattle.pli_type_templates.proofs.unit_templates.lifetime_rows.Goals as goal

pub lifetime_groups-requires-clause-items : goal.lifetime_groups-requires-clause-items
lifetime_groups-requires-clause-items c =
    let are = AreOfItems (marks_of c.args.items.now) in
    subst (λ (ss : List Symbol). All are (map symbol_view ss)) (sym c.deref.ensures.value)
    (all_mapped (All are) block_symbols c.args.blocks.now c.loop-block.block-index c.block-item.result c.loop-block-test.true c.block-item.is c.requires.items)
