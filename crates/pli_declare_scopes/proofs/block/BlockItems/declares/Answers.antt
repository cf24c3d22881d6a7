use Rattle.std.proofs.Common.{length, is_some, ap, ◌∙◌}
use Rattle.pli_declare_scopes.specs.Scopes.{is_named, declares}
use Rattle.pli_declare_scopes.proofs.IndexKept.{last_is_any}
use Rattle.pli_declare_scopes.proofs.block.BlockItems.declares.Goals as goal

pub returns : goal.returns
returns c =
    let items = c.self.inside.items.items in
    c.contains_key.ensures ∙ ap is_some (c.self.invariant.0.last c.args.name) ∙ last_is_any (is_named items c.args.name) (length items)
    ∙ ap (λ block. declares block c.args.name) c.self.view_is
