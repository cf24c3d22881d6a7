use Rattle.std.proofs.Common.{true, false, refl, subst, sym, ap, arith}
use Rattle.pli_declare_outline.specs.views.OutlineView.{outline_view}
use Rattle.pli_declare.specs.Tables.{block_in, unit_block}
use Rattle.pli_declare_faults.specs.answers.Answers.{IsLookedUp}
use Rattle.pli_declare_faults.proofs.BlocksOutwards.{IsLeft, begun, found_here, found_further, found_last, asked, some_asked, none_asked, table_read, tables_length}
use Rattle.pli_declare_faults.proofs.look_up.look_up.Goals as goal

pub loop-here-init : goal.loop-here-init
loop-here-init c =
    begun (outline_view c.args.scopes.now.outline.now) c.args.region c.args.names.now c.args.scopes.now.nesting.now c.args.scopes.now.nested
    c.innermost-here.result c.innermost-here.ensures.blocks c.innermost-here.ensures.itself c.innermost-here.ensures.within

pub index-requires : goal.index-requires
index-requires c =
    let o = outline_view c.args.scopes.now.outline.now in
    let w = subst (IsLeft o c.args.region c.args.names.now) c.in-Some.is c.loop-here.invariant in
    omega (arith, w.within, tables_length o c.args.scopes.now.tables.now c.args.scopes.now.tabled)

pub returns-in-Some-find_declared : goal.returns-in-Some-find_declared
returns-in-Some-find_declared c =
    let o = outline_view c.args.scopes.now.outline.now in
    let names = c.args.names.now in
    let n = c.in-Some.block in
    let w = subst (IsLeft o c.args.region names) c.in-Some.is c.loop-here.invariant in
    let read = ap (λ t. t.block) (table_read o c.args.scopes.now.tables.now c.args.scopes.now.tabled n c.index.result.now c.index.ensures w.within) in
    let said = some_asked (block_in o n) names c.find_declared.result c.in-Some-find_declared.found (asked (block_in o n) c.index.result.now.block names c.find_declared.result read c.find_declared.ensures) c.in-Some-find_declared.is in
    subst (λ l. IsLookedUp l o c.args.region names) (sym c.decided.ensures)
    (found_here o c.args.region names n w c.in-Some-find_declared.found said.1 true said.0 refl)

pub loop-here-preserved : goal.loop-here-preserved
loop-here-preserved c =
    let scopes = c.args.scopes.now in
    let o = outline_view scopes.outline.now in
    let names = c.args.names.now in
    let n = c.in-Some.block in
    let w = subst (IsLeft o c.args.region names) c.in-Some.is c.loop-here.invariant in
    let read = ap (λ t. t.block) (table_read o scopes.tables.now scopes.tabled n c.index.result.now c.index.ensures w.within) in
    let said = none_asked (block_in o n) names c.find_declared.result (asked (block_in o n) c.index.result.now.block names c.find_declared.result read c.find_declared.ensures) c.in_default-find_declared.is in
    found_further o c.args.region names scopes.nesting.now scopes.nested n w
    c.outward-here.result c.outward-here.ensures.blocks c.outward-here.ensures.itself c.outward-here.ensures.before false said refl

pub returns-in-Some-find_declared-2 : goal.returns-in-Some-find_declared-2
returns-in-Some-find_declared-2 c =
    let scopes = c.args.scopes.now in
    let o = outline_view scopes.outline.now in
    let names = c.args.names.now in
    let w = subst (IsLeft o c.args.region names) c.in_default.is c.loop-here.invariant in
    let said = some_asked (unit_block o) names c.find_declared-2.result c.in-Some-find_declared-2.found (asked (unit_block o) scopes.tables.now.unit.block names c.find_declared-2.result scopes.tabled.unit_block c.find_declared-2.ensures) c.in-Some-find_declared-2.is in
    subst (λ l. IsLookedUp l o c.args.region names) (sym c.decided-in-Some-find_declared-2.ensures) (found_last o c.args.region names w c.in-Some-find_declared-2.found said.1 true said.0 refl)
