use Rattle.std.proofs.Common.{ap, ◌∙◌}
use Rattle.pli_declare_scopes.specs.Scopes.{found_in}
use Rattle.pli_declare_scopes.proofs.block.BlockItems.find.Goals as goal

pub returns-in-Some : goal.returns-in-Some
returns-in-Some c =
    c.in-Some.ensures (found_in c.self.inside.items.items) c.self.invariant.4 ∙ ap (λ is. found_in is c.args.names.now) c.self.view_is
