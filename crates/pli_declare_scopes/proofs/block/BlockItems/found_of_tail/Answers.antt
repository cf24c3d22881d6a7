use Rattle.std.proofs.Common.{◌≡◌, ap, sym, ◌∙◌}
use Rattle.pli_declare_scopes.specs.answers.Remembered.{found_fitting}
use Rattle.pli_declare_scopes.proofs.block.BlockItems.found_of_tail.Goals as goal

pub returns-in-Some-clause-found : goal.returns-in-Some-clause-found
returns-in-Some-clause-found c =
    c.in-Some.ensures (found_fitting c.self.inside.items.items) c.self.invariant.5 ∙ ap (λ is. found_fitting is c.args.tail.now) c.self.view_is

pub invariant_of-self : goal.invariant_of-self
invariant_of-self c =
    let found : c.found_partly-found.result ≡ found_fitting c.self.inside.items.items c.in_ok-names.names.items =
    c.found_partly-found.ensures ∙ ap (λ is. found_fitting is c.args.tail.now) (sym c.self.view_is)
    ∙ ap (found_fitting c.self.inside.items.items) (sym c.in_ok-names.ensures.items) in (
      c.self.invariant.0,
      c.self.invariant.1,
      c.self.invariant.2,
      c.self.invariant.3,
      c.self.invariant.4,
      c.keep.ensures (found_fitting c.self.inside.items.items) c.self.invariant.5 found,
    )

pub invariant_of-self-2 : goal.invariant_of-self-2
invariant_of-self-2 c =
    let found : c.found_partly-found.result ≡ found_fitting c.self.inside.items.items c.in_ok-names.names.items =
    c.found_partly-found.ensures ∙ ap (λ is. found_fitting is c.args.tail.now) (sym c.self.view_is)
    ∙ ap (found_fitting c.self.inside.items.items) (sym c.in_ok-names.ensures.items) in (
      c.self.invariant.0,
      c.self.invariant.1,
      c.self.invariant.2,
      c.self.invariant.3,
      c.self.invariant.4,
      c.keep.ensures (found_fitting c.self.inside.items.items) c.self.invariant.5 found,
    )
