use Rattle.std.proofs.Common.{◌≡◌, ◌+◌, ◌∷◌, ◌++◌, List, drop, map, ap, sym, subst, ◌∙◌}
use Rattle.std.specs.List.{All}
use Rattle.std.proofs.lemmas.List.{append_assoc, drop_more}
use Rattle.pli_declare.specs.Symbols.{Symbol}
use Rattle.pli_declare.specs.views.SymbolView.{symbol_view}
use Rattle.pli_type_rules.specs.NamedUnits.{block_globals, globals_of}
use Rattle.pli_type_templates.specs.ItemNames.{AreOfItems}
use Rattle.pli_type_templates.specs.views.BlockView.{block_symbols}
use Rattle.pli_type_templates.specs.views.PlacedView.{placed_view}
use Rattle.pli_type_templates.proofs.UnitsMade.{all_mapped}
use Rattle.pli_type_templates.proofs.unit_templates.unit_globals.Goals as goal

pub loop-block-preserved : goal.loop-block-preserved
loop-block-preserved c =
    let l = c.loop-block in
    let blocks = c.args.blocks.now in
    let b = c.block-item.result in
    let others = drop (l.block-index + 1) blocks in
    let step = drop_more blocks l.block-index b c.loop-block-test.true ∙ ap (λ x. x ∷ others) (sym c.block-item.is) in
    let same : map symbol_view c.deref.result.now ≡ block_symbols b = ap (map symbol_view) c.deref.ensures.value in
    let so_far = map placed_view l.globals.items in
    let rest = block_globals 63 (map block_symbols others) in
    record {
      globals = ap (λ ts. ts ++ rest) (c.in_ok-put_globals.ensures.globals ∙ ap (λ ss. so_far ++ globals_of 63 ss) same)
          ∙ append_assoc so_far (globals_of 63 (block_symbols b)) rest
          ∙ ap (λ left. so_far ++ block_globals 63 (map block_symbols left)) (sym step)
          ∙ l.invariant.globals;
      items = λ marks h. c.in_ok-put_globals.ensures.items marks
          (subst (λ (ss : List Symbol). All (AreOfItems marks) ss) (sym same) (all_mapped (All (AreOfItems marks)) block_symbols blocks l.block-index b c.loop-block-test.true c.block-item.is h))
          (l.invariant.items marks h);
    }
