use Rattle.std.proofs.Common.{◌∷◌, [], map, ap, ◌∙◌, arith}
use Rattle.std.proofs.lemmas.List.{map-append, length-map}
use Rattle.pli_code.specs.views.CodeView.{member_view}
use Rattle.pli_machine_activations.specs.views.TableView.{all_statics}
use Rattle.pli_machine_loading.proofs.LinkedGlobals.{units_none, units_more, units_all, units_end, unit_here}
use Rattle.pli_machine_loading.proofs.linking.link_units.Goals as goal

pub loop-unit-init : goal.loop-unit-init
loop-unit-init c =
    units_none (map member_view c.args.«module».now.units.items) c.args.shared.now (map (λ t. t.items) c.args.tables.now.items)
    (ap (map (λ t. t.items)) c.requires.none) c.requires.known

pub loop-unit-preserved : goal.loop-unit-preserved
loop-unit-preserved c =
    let us = map member_view c.args.«module».now.units.items in
    let l = c.loop-unit in
    units_more us (member_view c.unit-item.result) l.unit-index c.args.shared.now l.shared
    c.link_unit.new.shared (map (λ t. t.items) l.tables.items) c.link_unit.new.table.items
    (map (λ t. t.items) c.add_table.new.tables.items)
    (ap (map (λ t. t.items)) c.in_ok-add_table-in-Ok.ensures ∙ map-append (λ t. t.items) l.tables.items (c.link_unit.new.table ∷ []))
    (unit_here c.args.«module».now.units.items c.deref-unit-items.result.now l.unit-index c.unit-item.result
    c.deref-unit-items.ensures.value (omega arith) c.unit-item.is) l.invariant
    (c.in-Ok.ensures l.unit-index (all_statics 0 (map (λ t. t.items) l.tables.items)) l.invariant.externals l.invariant.known)

pub returns-in-Err : goal.returns-in-Err
returns-in-Err c =
    let us = map member_view c.args.«module».now.units.items in
    let l = c.loop-unit in
    units_end us (member_view c.unit-item.result) l.unit-index c.args.shared.now l.shared c.link_unit.new.shared
    (map (λ t. t.items) l.tables.items) c.link_unit.new.table.items c.in-Err.fault
    (unit_here c.args.«module».now.units.items c.deref-unit-items.result.now l.unit-index c.unit-item.result
    c.deref-unit-items.ensures.value (omega arith) c.unit-item.is) l.invariant
    (c.in-Err.ensures l.unit-index (all_statics 0 (map (λ t. t.items) l.tables.items)) l.invariant.externals l.invariant.known)

pub returns : goal.returns
returns c =
    let us = map member_view c.args.«module».now.units.items in
    let l = c.loop-unit in
    units_all us l.unit-index c.args.shared.now l.shared (map (λ t. t.items) l.tables.items)
    (omega (arith, length-map c.args.«module».now.units.items member_view, c.deref-unit-items.ensures.len)) l.invariant
