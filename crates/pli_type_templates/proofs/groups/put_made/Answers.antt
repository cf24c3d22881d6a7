use Rattle.std.proofs.Common.{◌≡◌, ◌∷◌, ◌++◌, [], Some, map, ap, sym, ◌∙◌}
use Rattle.std.proofs.lemmas.List.{append-nil, map-append}
use Rattle.std.proofs.lemmas.List.Elements.{All-push, All-same}
use Rattle.pli_declare.specs.views.SymbolView.{symbol_view}
use Rattle.pli_type_templates.specs.Groups.{made_in, templates_with}
use Rattle.pli_type_templates.specs.views.ItemView.{HasMadeItem, items_view, made_template, made_view}
use Rattle.pli_type_templates.proofs.GroupsMade.{made_has_item}
use Rattle.pli_type_templates.proofs.groups.put_made.Goals as goal

pub returns : goal.returns
returns c =
    let old = c.args.made.now.items in
    let v = c.in-Some.variable in
    let s = symbol_view c.args.symbol.now in
    let members = items_view c.args.members.now in
    let is : Some (made_view v) ≡ made_in c.args.wanted s members = c.in-Some.ensures in
    let so_far = map made_template old in
    record {
      templates = ap (map made_template) c.in_ok-push.ensures.items ∙ map-append made_template old (v ∷ []) ∙ ap (λ m. so_far ++ templates_with m) is;
      items = λ marks h all. All-same (HasMadeItem marks) _ (old ++ v ∷ []) c.in_ok-push.ensures.items
          (All-push (HasMadeItem marks) old v all (made_has_item c.args.wanted marks s.identifier.at members s.kind (made_view v) is h));
    }

pub returns-in_default : goal.returns-in_default
returns-in_default c =
    let so_far = map made_template c.args.made.now.items in
    record {
      templates = sym (append-nil so_far) ∙ ap (λ m. so_far ++ templates_with m) c.in_default.ensures;
      items = λ marks h all. all;
    }
