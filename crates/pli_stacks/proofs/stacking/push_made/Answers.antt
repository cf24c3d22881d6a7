use Rattle.std.proofs.Common.{[], ◌∷◌, ◌++◌, ap, ◌∙◌}
use Rattle.pli_world.specs.Storage.{whole}
use Rattle.pli_stacks.specs.views.StackView.{places_view, stack_view}
use Rattle.pli_stacks.proofs.StacksSaid.{newest_popped}
use Rattle.pli_stacks.proofs.stacking.push_made.Goals as goal

pub returns-clause-ok : goal.returns-clause-ok
returns-clause-ok c =
    let s = c.args.stack.now in
    let d = (stack_view s).variable.description in
    let h = c.next_handle-next.result in
    ap (λ ps. record (stack_view s) { places = ps })
    (newest_popped d c.push_reserved.new.self.items s.generations.items h (c.push_reserved.ensures.items ∙ ap (λ hs. hs ++ h ∷ []) c.reserve_one.ensures.items)
    ∙ ap (λ n. whole n d ∷ places_view d s.generations.items) c.next_handle-next.ensures)
