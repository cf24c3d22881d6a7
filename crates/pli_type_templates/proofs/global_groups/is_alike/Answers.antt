use Rattle.std.proofs.Common.{List, Option, option_map, map, subst, sym}
use Rattle.pli_base.specs.Name.{Name}
use Rattle.pli_map.specs.Description.{Description}
use Rattle.pli_map.specs.declared.parameter.ParameterType as program
use Rattle.pli_map.specs.views.DescriptionView.{description_view}
use Rattle.pli_map.specs.views.ParameterView.{type_view}
use Rattle.pli_type_tree.specs.TypedTree.{Global, EntryPoint}
use Rattle.pli_type_templates.specs.Globals.{IsLike}
use Rattle.pli_type_templates.specs.declared.placed_globals.UnitGlobal.{UnitGlobal}
use Rattle.pli_type_templates.specs.views.NumberView.{marks_of}
use Rattle.pli_type_templates.specs.views.PlacedView.{HasGlobal, unit_global_view}
use Rattle.pli_type_templates.proofs.ItemsShared.{like_entries}
use Rattle.pli_type_templates.proofs.global_groups.is_alike.Goals as goal

abbrev entry_view : Name → List program.ParameterType → Option Description → Global
entry_view name parameters returned = EntryPoint name (record { parameters = map type_view parameters; result = returned })

pub returns-in-EntryPoint-EntryPoint : goal.returns-in-EntryPoint-EntryPoint
returns-in-EntryPoint-EntryPoint c = λ one left right.
    let e = c.in-EntryPoint-EntryPoint in
    let marks = marks_of c.args.items.now in
    let l = c.args.left.now in
    let r = c.args.right.now in
    let alike = like_entries marks l.at r.at e.name-0 e.name-1 (map type_view e.parameters-0.now) (map type_view e.parameters-1.now)
    (option_map (λ d. description_view d.now) e.returned-0) (option_map (λ d. description_view d.now) e.returned-1) (c.are_of_one.ensures one)
    (subst (HasGlobal marks l.at) e.is-0 left) (subst (HasGlobal marks r.at) e.is-1 right) in
    subst (λ (g : UnitGlobal). IsLike (unit_global_view g) (unit_global_view r.global)) (sym e.is-0)
    (subst (λ (g : UnitGlobal). IsLike (entry_view e.name-0 e.parameters-0.now (option_map (λ d. description_view d.now) e.returned-0)) (unit_global_view g)) (sym e.is-1) alike)
