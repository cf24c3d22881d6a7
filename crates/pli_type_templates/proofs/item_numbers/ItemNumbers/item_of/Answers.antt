use Rattle.std.proofs.Common.{◌≡◌, Option, nat_eq, sym, ap, subst, ◌∙◌}
use Rattle.std.specs.Option.{option_flatten}
use Rattle.indexmap.specs.IndexMap.{get}
use Rattle.pli_type_templates.specs.NotedNames.{IsOnly}
use Rattle.pli_type_templates.specs.declared.item_number.ItemNumber.{ItemNumber}
use Rattle.pli_type_templates.proofs.NamesNoted.{only_known}
use Rattle.pli_type_templates.proofs.item_numbers.ItemNumbers.item_of.Goals as goal

pub returns : goal.returns
returns c = λ number item name.
    let note = get nat_eq c.args.self.now.numbers c.args.at in
    let is : c.flatten.result ≡ option_flatten note = c.flatten.ensures ∙ ap option_flatten (c.copied.ensures ∙ c.get.ensures.value) in
    subst (λ (o : Option ItemNumber). IsOnly o number) (sym is)
    (only_known note number (λ only e. c.args.self.now.tell c.args.at only number item e name))
