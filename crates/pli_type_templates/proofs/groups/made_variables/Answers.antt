use Rattle.std.proofs.Common.{◌≡◌, ◌+◌, ◌<◌, ◌++◌, ◌∷◌, [], List, Vec, drop, get_or, length, map, ap, sym, subst, ◌∙◌, arith}
use Rattle.std.specs.Global.{Global}
use Rattle.std.proofs.lemmas.List.{append_assoc, append-nil, drop_all, drop_more, get_or-map, length-map}
use Rattle.pli_declare.specs.views.SymbolView.{symbol_view}
use Rattle.pli_type_rules.specs.InitialScalars.{InitialItem}
use Rattle.pli_type_rules.specs.NamedUnits.{member_items, templates_from}
use Rattle.pli_type_templates.specs.Groups.{is_such}
use Rattle.pli_type_templates.specs.ItemNames.{AreOfItems}
use Rattle.pli_type_templates.specs.declared.items.ValuedItem.{ValuedItem}
use Rattle.pli_type_templates.specs.views.ItemView.{items_view, made_template}
use Rattle.pli_type_templates.proofs.GroupsMade.{one_made}
use Rattle.pli_type_templates.proofs.groups.made_variables.Goals as goal

pub loop-number-preserved : goal.loop-number-preserved
loop-number-preserved c =
    let l = c.loop-number in
    let s = c.index-symbols-number.result in
    let v = c.index-members-number.result in
    let all = map symbol_view c.args.symbols.now in
    let others = drop (l.number + 1) c.args.symbols.now in
    let items : Vec ValuedItem Global → List InitialItem = λ v. items_view v.items in
    let is_made = is_such c.args.wanted in
    let step = drop_more c.args.symbols.now l.number s c.loop-number-test.true ∙ ap (λ x. x ∷ others) (sym c.index-symbols-number.is) in
    let within : l.number < length all = omega (arith, c.loop-number-test.true, length-map c.args.symbols.now symbol_view) in
    let owned : l.number < length c.args.members.now = omega (arith, within, c.requires.sized, length-map c.args.members.now items) in
    let members : items_view c.deref.result.now ≡ member_items l.number all =
    ap items_view c.deref.ensures.value ∙ ap items c.index-members-number.is
    ∙ sym (get_or-map items c.args.members.now l.number v [] owned) ∙ c.requires.owned l.number within in
    let so_far = map made_template l.made.items in
    let rest = templates_from is_made all (l.number + 1) (map symbol_view others) in
    let here : get_or all l.number (symbol_view s) ≡ symbol_view s =
    get_or-map symbol_view c.args.symbols.now l.number s (symbol_view s) c.loop-number-test.true ∙ ap symbol_view (sym c.index-symbols-number.is) in
    record {
      templates = ap (λ ts. ts ++ rest) c.in_ok-put_made.ensures.templates
          ∙ append_assoc so_far _ rest
          ∙ ap (λ ts. so_far ++ ts) (sym (one_made c.args.wanted all l.number (symbol_view s) (map symbol_view others) _ members))
          ∙ ap (λ left. so_far ++ templates_from is_made all l.number (map symbol_view left)) (sym step)
          ∙ l.invariant.templates;
      items = λ marks h. c.in_ok-put_made.ensures.items marks (subst (AreOfItems marks) here (h l.number (symbol_view s) within)) (l.invariant.items marks h);
    }

pub returns : goal.returns
returns c =
    let l = c.loop-number in
    let all = map symbol_view c.args.symbols.now in
    let none = drop_all l.number c.args.symbols.now c.loop-number-test.false in
    let nothing = ap (λ left. templates_from (is_such c.args.wanted) all l.number (map symbol_view left)) none in
    let made = map made_template l.made.items in
    record {
      templates = sym (append-nil made) ∙ ap (λ ts. made ++ ts) (sym nothing) ∙ l.invariant.templates;
      items = l.invariant.items;
    }
