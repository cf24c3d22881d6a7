use Rattle.std.proofs.Common.{refl, sym, subst}
use Rattle.pli_map.specs.Marks.{HasMark}
use Rattle.pli_map.specs.views.DescriptionView.{description_view}
use Rattle.pli_map.proofs.MarkLemmas.{same_of_one}
use Rattle.pli_map.proofs.marks.are_same_marked.Goals as goal

pub returns-then-left_mark-right_mark : goal.returns-then-left_mark-right_mark
returns-then-left_mark-right_mark c = (
  λ e. same_of_one (description_view c.args.left.now) (description_view c.args.right.now) c.args.left_mark c.if-left_mark-ne0.true c.requires.left
      (subst (HasMark (description_view c.args.right.now)) (sym c.if-left_mark-right_mark.true) c.requires.right),
  λ e. refl,
)
