use Rattle.std.proofs.Common.{◌≡◌, List, map, ap, sym, subst, ◌∙◌}
use Rattle.std.specs.List.{All}
use Rattle.std.proofs.lemmas.List.Elements.{All-same}
use Rattle.pli_base.specs.declared.statement.Procedure.{Procedure}
use Rattle.pli_base.specs.views.StatementView.{unit_view}
use Rattle.pli_declare_outline.specs.Outlines.{outline_of}
use Rattle.pli_declare.specs.ResolvedUnits.{all_symbols, resolved_unit_of}
use Rattle.pli_type_rules.specs.NamedUnits.{all_globals, is_automatic, is_based, templates_of}
use Rattle.pli_type_templates.specs.ItemNames.{AreOfItems, HasFewMarks, HasFewRegions}
use Rattle.pli_type_templates.specs.declared.block_names.BlockNames.{BlockNames}
use Rattle.pli_type_templates.specs.views.BlockView.{block_symbols}
use Rattle.pli_type_templates.specs.views.UnitView.{row_view}
use Rattle.pli_type_templates.proofs.SymbolsOfItems.{symbols_of_items}
use Rattle.pli_type_templates.proofs.UnitsMade.{rows_found}
use Rattle.pli_type_templates.proofs.unit_templates.templates.Goals as goal

-- an item says what each symbol of a unit is
all_said : (u : Procedure) (unit : Procedure) (blocks : List BlockNames) → unit ≡ u → map block_symbols blocks ≡ all_symbols (resolved_unit_of (unit_view u))
    → All (All (AreOfItems (outline_of (unit_view unit)).marks)) (map block_symbols blocks)
all_said u unit blocks same symbols =
    subst (λ (p : Procedure). All (All (AreOfItems (outline_of (unit_view p)).marks)) (map block_symbols blocks)) (sym same)
    (All-same (All (AreOfItems (outline_of (unit_view u)).marks)) (map block_symbols blocks) (all_symbols (resolved_unit_of (unit_view u))) symbols (symbols_of_items (unit_view u)))

pub of-requires : goal.of-requires
of-requires c = c.outline.ensures ∙ ap (λ (p : Procedure). outline_of (unit_view p)) (sym c.unit.ensures)

pub lifetime_rows-requires-clause-items : goal.lifetime_rows-requires-clause-items
lifetime_rows-requires-clause-items c =
    all_said c.args.resolved.now c.in_ok-items.items.unit.now c.deref-2.result.now (c.in_ok-items.ensures.unit ∙ c.unit.ensures)
    (ap (map block_symbols) c.deref-2.ensures.value ∙ (c.in_ok-blocks.ensures.symbols ∙ c.requires))

pub lifetime_rows-requires-2-clause-items : goal.lifetime_rows-requires-2-clause-items
lifetime_rows-requires-2-clause-items c =
    all_said c.args.resolved.now c.in_ok-items.items.unit.now c.deref-3.result.now (c.in_ok-items.ensures.unit ∙ c.unit.ensures)
    (ap (map block_symbols) c.deref-3.ensures.value ∙ (c.in_ok-blocks.ensures.symbols ∙ c.requires))

pub sorted_groups-requires-clause-items : goal.sorted_groups-requires-clause-items
sorted_groups-requires-clause-items c =
    all_said c.args.resolved.now c.in_ok-items.items.unit.now c.deref-4.result.now (c.in_ok-items.ensures.unit ∙ c.unit.ensures)
    (ap (map block_symbols) c.deref-4.ensures.value ∙ (c.in_ok-blocks.ensures.symbols ∙ c.requires))

pub returns : goal.returns
returns c =
    let u = unit_view c.args.resolved.now in
    let first = ap (map block_symbols) c.deref-2.ensures.value ∙ (c.in_ok-blocks.ensures.symbols ∙ c.requires) in
    let second = ap (map block_symbols) c.deref-3.ensures.value ∙ (c.in_ok-blocks.ensures.symbols ∙ c.requires) in
    let third = ap (map block_symbols) c.deref-4.ensures.value ∙ (c.in_ok-blocks.ensures.symbols ∙ c.requires) in
    record {
      automatic = rows_found (resolved_unit_of u) (is_automatic 63) (map row_view c.in_ok-automatic.automatic.items)
          (c.in_ok-automatic.ensures ∙ ap (map (templates_of (is_automatic 63))) first);
      based = rows_found (resolved_unit_of u) (is_based 63) (map row_view c.in_ok-based.based.items)
          (c.in_ok-based.ensures ∙ ap (map (templates_of (is_based 63))) second);
      globals = c.in_ok-globals.ensures ∙ ap (all_globals 63) third;
      regions = subst (λ (p : Procedure). HasFewRegions (unit_view p)) c.unit.ensures c.in_ok-items.ensures.regions;
      marks = subst (λ (p : Procedure). HasFewMarks (unit_view p)) c.unit.ensures c.in_ok-items.ensures.marks;
    }
