use Rattle.std.proofs.Common.{sym, subst, ◌∙◌}
use Rattle.std.proofs.Common.{map}
use Rattle.pli_map.specs.views.DescriptionView.{description_view}
use Rattle.pli_type_tree.specs.views.TemplateView.{initial_view}
use Rattle.pli_stacks.specs.answers.LaidBytes.{IsLaid}
use Rattle.pli_stacks.proofs.initial.begin.Goals as goal

pub copy_from_slice-requires : goal.copy_from_slice-requires
copy_from_slice-requires c = c.requires.size ∙ sym (rw c.in-Some.is at c.requires.laid).size

pub returns-in-Some : goal.returns-in-Some
returns-in-Some c =
    subst (IsLaid (record { description = description_view c.args.description.now; initial = map initial_view c.args.scalars.now }))
    (sym c.copy_from_slice.ensures.after) (rw c.in-Some.is at c.requires.laid)
