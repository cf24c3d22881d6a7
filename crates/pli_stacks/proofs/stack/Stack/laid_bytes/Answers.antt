use Rattle.std.proofs.Common.{map, sym, subst}
use Rattle.pli_map.specs.views.DescriptionView.{description_view}
use Rattle.pli_type_tree.specs.views.TemplateView.{initial_view}
use Rattle.pli_stacks.specs.answers.LaidBytes.{IsLaid}
use Rattle.pli_stacks.proofs.stack.Stack.laid_bytes.Goals as goal

pub returns-in-Some : goal.returns-in-Some
returns-in-Some c =
    let s = c.args.self.now in
    subst (IsLaid (record { description = description_view s.kind.description.now; initial = map initial_view s.initial.now }))
    (sym c.as_slice.ensures.value) (rw c.in-Some.is at s.begins)
