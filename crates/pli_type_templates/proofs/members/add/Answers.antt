use Rattle.std.proofs.Common.{◌++◌, ◌∷◌, [], List, Vec, map, set, ap, sym, ◌∙◌}
use Rattle.std.specs.Global.{Global}
use Rattle.std.proofs.lemmas.List.{map-set, map_push, get_or-map}
use Rattle.pli_type_rules.specs.InitialScalars.{InitialItem}
use Rattle.pli_type_templates.specs.declared.items.ValuedItem.{ValuedItem}
use Rattle.pli_type_templates.specs.views.ItemView.{item_view, items_view}
use Rattle.pli_type_templates.proofs.members.add.Goals as goal

pub returns : goal.returns
returns c =
    let rows = c.args.members.now.items in
    let items : Vec ValuedItem Global → List InitialItem = λ v. items_view v.items in
    let old = c.index_mut.result.now.items in
    map-set items rows c.args.root c.push.new.self
    ∙ ap (λ (xs : List InitialItem). set (map items rows) c.args.root xs)
    (ap items_view c.in_ok-push.ensures.items ∙ map_push item_view old c.args.item
    ∙ ap (λ xs. xs ++ item_view c.args.item ∷ []) (ap items c.index_mut.ensures.value ∙ sym (get_or-map items rows c.args.root c.index_mut.result.now [] c.requires)))
