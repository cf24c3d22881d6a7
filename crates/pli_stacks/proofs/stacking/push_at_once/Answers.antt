use Rattle.std.proofs.Common.{◌∷◌, refl, ap, ◌∙◌}
use Rattle.pli_world.specs.Storage.{whole}
use Rattle.pli_type_tree.specs.Templates.{Template, variable_of}
use Rattle.pli_stacks.specs.views.StackView.{places_view, stack_view, template_of}
use Rattle.pli_stacks.proofs.InitialValues.{initial_held}
use Rattle.pli_stacks.proofs.StacksSaid.{newest_popped}
use Rattle.pli_stacks.proofs.stacking.push_at_once.Goals as goal

pub make_at_once-requires : goal.make_at_once-requires
make_at_once-requires c = c.in-Some.ensures.size

pub returns-clause-made : goal.returns-clause-made
returns-clause-made c = λ done w.
    let t : Template = template_of c.args.stack.now in
    c.if-not-make_at_once.ensures.made refl w (variable_of t).initial (c.in-Some.ensures.values, initial_held t)

pub returns-clause-pushed : goal.returns-clause-pushed
returns-clause-pushed c = λ done.
    let s = c.args.stack.now in
    let d = (stack_view s).variable.description in
    let h = c.next_handle-next.result in
    ap (λ ps. record (stack_view s) { places = ps })
    (newest_popped d c.push_reserved.new.self.items s.generations.items h c.push_reserved.ensures.items
    ∙ ap (λ n. whole n d ∷ places_view d s.generations.items) c.next_handle-next.ensures)
