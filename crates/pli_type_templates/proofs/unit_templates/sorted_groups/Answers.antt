use Rattle.std.proofs.Common.{◌≡◌, map, ap, ◌∙◌}
use Rattle.std.proofs.lemmas.List.Elements.{All-same}
use Rattle.std.proofs.lemmas.List.Sorted.{All-permutation}
use Rattle.std.proofs.lemmas.Result.{IfOk-weaker}
use Rattle.pli_type_rules.specs.NamedUnits as units
use Rattle.pli_type_rules.specs.NamedUnits.{all_globals}
use Rattle.pli_type_rules.specs.TextOrder.{in_order}
use Rattle.pli_type_templates.specs.views.BlockView.{block_symbols}
use Rattle.pli_type_templates.specs.views.NumberView.{marks_of}
use Rattle.pli_type_templates.specs.views.PlacedView.{HasGlobalItem, global_view}
use Rattle.pli_type_templates.proofs.UnitsMade.{globals_alone}
use Rattle.pli_type_templates.proofs.unit_templates.sorted_groups.Goals as goal

pub groups-requires : goal.groups-requires
groups-requires c =
    let marks = marks_of c.args.items.now in
    let sorted = c.sort.new.globals.items in
    All-same (HasGlobalItem marks) c.deref.result.now sorted c.deref.ensures.value
    (All-permutation (HasGlobalItem marks) c.in_ok-globals.globals.items sorted c.in_ok-sort.ensures.same (c.in_ok-globals.ensures.items marks c.requires.items))

pub returns : goal.returns
returns c =
    let sorted = c.sort.new.globals.items in
    let all : map global_view sorted ≡ all_globals 63 (map block_symbols c.args.blocks.now) =
    globals_alone sorted
    ∙ ap (map (λ (p : units.PlacedGlobal). p.global)) (c.in_ok-sort.ensures.order ∙ ap (in_order (λ (p : units.PlacedGlobal). p.at)) c.in_ok-globals.ensures.globals) in
    IfOk-weaker c.groups.result _ _ (λ made e. e ∙ ap (map global_view) c.deref.ensures.value ∙ all) c.groups.ensures
