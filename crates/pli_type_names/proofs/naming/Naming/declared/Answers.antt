use Rattle.std.proofs.Common.{◌≡◌, [], get_or, map, reverse, ap, ◌∙◌}
use Rattle.pli_base.specs.views.StatementView.{unit_view}
use Rattle.pli_declare.specs.ResolvedUnits.{resolved_unit_of}
use Rattle.pli_type_rules.specs.NamedUnits.{declared_as}
use Rattle.pli_type_names.specs.Seen.{KeptNothing, kept_seen, seen}
use Rattle.pli_type_names.specs.views.EntryView.{entry_view}
use Rattle.pli_type_names.specs.views.MeaningView.{row_view}
use Rattle.pli_type_names.proofs.Names.{declared_seen}
use Rattle.pli_type_names.proofs.naming.Naming.declared.Goals as goal

pub returns : goal.returns
returns c =
    let key = c.args.key in
    let names = c.args.self.now in
    let inside = c.self.inside in
    let unit : inside.resolved.now ≡ names.unit = ap (λ n. n.unit) c.self.view_is in
    let blocks : reverse inside.around.items ≡ names.blocks = ap (λ n. n.blocks) c.self.view_is in
    let r = resolved_unit_of (unit_view inside.resolved.now) in
    let entries = map entry_view inside.entries.items in
    let kept = get_or (get_or (map row_view inside.meanings.items) key.block []) key.number KeptNothing in
    let rows = map row_view inside.meanings.items in
    c.symbol_seen.ensures
    ∙ ap (λ xs. kept_seen (map row_view c.deref-3.result.now) (reverse xs) (map entry_view c.deref-2.result.now) key.block (get_or (get_or (map row_view c.deref-3.result.now) key.block []) key.number KeptNothing)) c.deref.ensures.value
    ∙ ap (λ es. kept_seen (map row_view c.deref-3.result.now) (reverse inside.around.items) (map entry_view es) key.block (get_or (get_or (map row_view c.deref-3.result.now) key.block []) key.number KeptNothing)) c.deref-2.ensures.value
    ∙ ap (λ ms. kept_seen (map row_view ms) (reverse inside.around.items) entries key.block (get_or (get_or (map row_view ms) key.block []) key.number KeptNothing)) c.deref-3.ensures.value
    ∙ declared_seen r (reverse inside.around.items) entries rows c.self.invariant.0.found key kept c.self.invariant.1.found
    (ap (λ row. get_or row key.number KeptNothing) (c.self.invariant.0.found key.block))
    ∙ ap (λ u. seen (declared_as 63 (resolved_unit_of (unit_view u)) (reverse inside.around.items) key)) unit
    ∙ ap (λ bs. seen (declared_as 63 (resolved_unit_of (unit_view names.unit)) bs key)) blocks
