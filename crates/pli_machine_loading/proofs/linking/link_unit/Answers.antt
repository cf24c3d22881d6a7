use Rattle.std.proofs.Common.{◌+◌, ◌++◌, length, map, drop, subst, ap, arith}
use Rattle.pli_code.specs.CodeTables.{globals_linked}
use Rattle.pli_code.specs.views.CodeView.{code_view, global_view}
use Rattle.pli_machine_activations.specs.views.TableView.{statics_from}
use Rattle.pli_machine_loading.proofs.LinkedGlobals.{GlobalsSoFar, none_so_far, so_far_more, so_far_ends, so_far_all, left_at, none_left}
use Rattle.pli_machine_loading.proofs.linking.link_unit.Goals as goal

pub loop-global-init : goal.loop-global-init
loop-global-init c = λ number statics externals known. none_so_far number _ statics externals c.args.shared.now c.args.table.now.items c.requires known

pub loop-global-preserved : goal.loop-global-preserved
loop-global-preserved c = λ number statics externals known.
    let u = c.args.unit.now in
    let l = c.loop-global in
    let so =
    subst (λ gs. GlobalsSoFar u number gs l.taken statics externals c.args.shared.now l.shared l.table.items)
    (left_at global_view u.deck.code.globals.items c.deref-global-items.result.now l.global-index c.global-item.result c.deref-global-items.ensures.value (omega arith) c.global-item.is)
    (l.invariant number statics externals known) in
    so_far_more number _ _ statics externals c.args.shared.now l.shared l.table.items so _ c.link_global.new.shared c.add_global.new.table.items c.in-Ok.linked c.in_ok-add_global-in-Ok.ensures
    (c.in-Ok.ensures (drop (l.global-index + 1) (map global_view u.deck.code.globals.items)) number
    (length l.table.items) (statics ++ statics_from number 0 l.table.items) so.after so.known)

pub returns-in-Err : goal.returns-in-Err
returns-in-Err c = λ number statics externals known.
    let u = c.args.unit.now in
    let l = c.loop-global in
    let so =
    subst (λ gs. GlobalsSoFar u number gs l.taken statics externals c.args.shared.now l.shared l.table.items)
    (left_at global_view u.deck.code.globals.items c.deref-global-items.result.now l.global-index c.global-item.result c.deref-global-items.ensures.value (omega arith) c.global-item.is)
    (l.invariant number statics externals known) in
    so_far_ends number _ _ statics externals c.args.shared.now l.shared l.table.items so
    (globals_linked (code_view u.deck.code) (drop (l.global-index + 1) (map global_view u.deck.code.globals.items)) (drop c.link_global.new.taken u.links.items)) c.link_global.new.shared c.in-Err.fault
    (c.in-Err.ensures (drop (l.global-index + 1) (map global_view u.deck.code.globals.items)) number
    (length l.table.items) (statics ++ statics_from number 0 l.table.items) so.after so.known)

pub returns : goal.returns
returns c = λ number statics externals known.
    let u = c.args.unit.now in
    let l = c.loop-global in
    so_far_all number _ _ statics externals c.args.shared.now l.shared l.table.items (l.invariant number statics externals known)
    (ap (λ gs. globals_linked (code_view u.deck.code) gs (drop l.taken u.links.items))
    (none_left global_view u.deck.code.globals.items c.deref-global-items.result.now l.global-index c.deref-global-items.ensures.value (omega arith)))
