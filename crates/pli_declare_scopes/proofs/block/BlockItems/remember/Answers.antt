use Rattle.std.proofs.Common.{◌≡◌, ap, sym, ◌∙◌}
use Rattle.pli_declare_scopes.specs.Scopes.{found_in}
use Rattle.pli_declare_scopes.proofs.block.BlockItems.remember.Goals as goal

pub invariant_of-self : goal.invariant_of-self
invariant_of-self c =
    let items = c.self-2.inside.items.items in
    let same : c.args.self.now ≡ items = sym (c.self-2.view_is ∙ c.in_ok-found.ensures.kept) in
    let found : c.in_ok-found.found ≡ found_in items c.in_ok-names.names.items =
    c.in_ok-found.ensures.found ∙ ap (λ is. found_in is c.args.names.now) same ∙ ap (found_in items) (sym c.in_ok-names.ensures.items) in (
      c.self-2.invariant.0,
      c.self-2.invariant.1,
      c.self-2.invariant.2,
      c.self-2.invariant.3,
      c.keep.ensures (found_in items) c.self-2.invariant.4 found,
      c.self-2.invariant.5,
    )
