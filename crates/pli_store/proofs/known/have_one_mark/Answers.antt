use Rattle.std.proofs.Common.{subst}
use Rattle.std.proofs.lemmas.Bool.{eqb-true}
use Rattle.pli_map.specs.Marks.{HasMark}
use Rattle.pli_map.specs.views.DescriptionView.{description_view}
use Rattle.pli_map.proofs.MarkLemmas.{same_of_one}
use Rattle.pli_store.proofs.known.have_one_mark.Goals as goal

pub returns : goal.returns
returns c = λ e.
    same_of_one (description_view c.args._left.now) (description_view c.args._right.now) c.args.right_mark c.requires.some
    (subst (HasMark (description_view c.args._left.now)) (eqb-true c.args.left_mark c.args.right_mark e) c.requires.left) c.requires.right
