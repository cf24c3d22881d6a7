use Rattle.std.proofs.Common.{length, ap, ◌∙◌}
use Rattle.pli_declare_scopes.specs.Scopes.{is_named}
use Rattle.pli_declare_scopes.specs.answers.Indexes.{last_below}
use Rattle.pli_declare_scopes.proofs.block.BlockItems.last_of.Goals as goal

pub returns : goal.returns
returns c =
    c.copied.ensures ∙ c.get.ensures.value ∙ c.self.invariant.0.last c.args.name
    ∙ ap (λ block. last_below (is_named block c.args.name) (length block)) c.self.view_is
