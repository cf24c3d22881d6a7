use Rattle.std.proofs.Common.{◌≡◌, map, reverse, slice_get, ap, ◌∙◌}
use Rattle.pli_base.specs.views.StatementView.{unit_view}
use Rattle.pli_declare.specs.ResolvedUnits.{resolved_unit_of}
use Rattle.pli_type_rules.specs.NamedUnits.{area_named, returned_area_of}
use Rattle.pli_type_names.specs.BlockEntries.{area_of}
use Rattle.pli_type_names.specs.Seen.{area_under}
use Rattle.pli_type_names.specs.views.EntryView.{entry_view}
use Rattle.pli_type_names.specs.views.MeaningView.{row_view}
use Rattle.pli_type_names.proofs.AnswersSay.{area_found, returned_area_is}
use Rattle.pli_type_names.proofs.StorageIs.{area_is}
use Rattle.pli_type_names.proofs.naming.Naming.returned_area.Goals as goal

pub returns : goal.returns
returns c =
    let b = c.args.block in
    let names = c.args.self.now in
    let inside = c.self.inside in
    let unit : inside.resolved.now ≡ names.unit = ap (λ n. n.unit) c.self.view_is in
    let blocks : reverse inside.around.items ≡ names.blocks = ap (λ n. n.blocks) c.self.view_is in
    let r = resolved_unit_of (unit_view inside.resolved.now) in
    let rows = map row_view inside.meanings.items in
    let around = reverse inside.around.items in
    let key = c.area_at.result in
    c.area_under.ensures
    ∙ ap (λ xs. area_under (map row_view c.deref-2.result.now) (reverse xs) key) c.deref.ensures.value
    ∙ ap (λ ms. area_under (map row_view ms) around key) c.deref-2.ensures.value
    ∙ area_is r around rows c.self.invariant.0.found key
    ∙ ap (area_named 63 r around)
    (c.area_at.ensures
    ∙ ap (λ es. area_of (slice_get (map entry_view es) b)) c.deref-3.ensures.value
    ∙ area_found r b (slice_get (map entry_view inside.entries.items) b) (c.self.invariant.1.found b))
    ∙ ap (λ u. area_named 63 (resolved_unit_of (unit_view u)) around (returned_area_of (resolved_unit_of (unit_view u)) b)) unit
    ∙ ap (λ bs. area_named 63 (resolved_unit_of (unit_view names.unit)) bs (returned_area_of (resolved_unit_of (unit_view names.unit)) b)) blocks
    ∙ returned_area_is names b
