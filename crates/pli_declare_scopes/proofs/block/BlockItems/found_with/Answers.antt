use Rattle.std.proofs.Common.{◌≡◌, ◌<◌, length, get_or, None, sym, ap, subst, ◌∙◌}
use Rattle.std.proofs.lemmas.List.{get_or_default}
use Rattle.pli_declare_scopes.specs.declared.block.Declared.{Declared}
use Rattle.pli_declare_scopes.specs.Scopes.{no_item, item_at}
use Rattle.pli_declare_scopes.proofs.block.BlockItems.found_with.Goals as goal

pub found_alike-requires-clause-top : goal.found_alike-requires-clause-top
found_alike-requires-clause-top c =
    let items = c.self.inside.items.items in
    let n = c.args.number in
    let within = subst (λ block. n < length block) (sym c.self.view_is) c.requires.within in
    let item : c.index.result.now ≡ item_at items n = c.index.ensures ∙ get_or_default items n c.index.result.now no_item within in
    subst (λ block. (item_at block n).owner ≡ None) c.self.view_is (ap (λ (i : Declared). i.owner) (sym item) ∙ c.in-None.is)
