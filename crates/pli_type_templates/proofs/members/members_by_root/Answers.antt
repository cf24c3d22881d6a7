use Rattle.std.proofs.Common.{◌≡◌, ◌+◌, ◌++◌, ◌∷◌, [], List, Vec, drop, length, map, replicate, subst, ap, sym, ◌∙◌, arith}
use Rattle.std.specs.Global.{Global}
use Rattle.std.proofs.lemmas.List.{drop_all, drop_more, length-map, map_push, replicate_more}
use Rattle.pli_declare.specs.views.SymbolView.{symbol_view}
use Rattle.pli_type_rules.specs.InitialScalars.{InitialItem}
use Rattle.pli_type_templates.specs.declared.items.ValuedItem.{ValuedItem}
use Rattle.pli_type_templates.specs.views.ItemView.{items_view, rows_view}
use Rattle.pli_type_templates.proofs.MembersFound.{Found, all_found, found_more, none_found}
use Rattle.pli_type_templates.proofs.members.members_by_root.Goals as goal

pub loop-preserved : goal.loop-preserved
loop-preserved c =
    let items : Vec ValuedItem Global → List InitialItem = λ v. items_view v.items in
    ap (map items) c.in_ok-push.ensures.items ∙ map_push items c.loop.members.items c.new.result
    ∙ ap (λ xs. xs ++ items c.new.result ∷ []) c.loop.invariant
    ∙ ap (λ is. replicate c.loop.counter [] ++ items_view is ∷ []) c.new.ensures.items
    ∙ replicate_more c.loop.counter []

pub loop-symbol-init : goal.loop-symbol-init
loop-symbol-init c =
    let all = map symbol_view c.args.symbols.now in
    let counted : c.loop.counter ≡ length all = omega (arith, length-map c.args.symbols.now symbol_view) in
    none_found all (rows_view c.loop.members.items) (c.loop.invariant ∙ ap (λ n. replicate n []) counted)

pub loop-symbol-preserved : goal.loop-symbol-preserved
loop-symbol-preserved c =
    let l = c.loop-symbol in
    let s = c.symbol-item.result in
    let all = map symbol_view c.args.symbols.now in
    let others = drop (l.symbol-index + 1) c.args.symbols.now in
    let rows = rows_view l.members.items in
    let step = drop_more c.args.symbols.now l.symbol-index s c.loop-symbol-test.true ∙ ap (λ x. x ∷ others) (sym c.symbol-item.is) in
    let before = subst (λ left. Found rows (map symbol_view left) all) step l.invariant in
    subst (λ rs. Found rs (map symbol_view others) all) (sym c.in_ok-add_symbol.ensures)
    (found_more rows (symbol_view s) (map symbol_view others) all before)

pub returns : goal.returns
returns c =
    let l = c.loop-symbol in
    let all = map symbol_view c.args.symbols.now in
    let rows = rows_view l.members.items in
    let none = drop_all l.symbol-index c.args.symbols.now c.loop-symbol-test.false in
    all_found rows all (subst (λ left. Found rows (map symbol_view left) all) none l.invariant)
