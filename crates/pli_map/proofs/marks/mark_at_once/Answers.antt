use Rattle.std.proofs.Common.{◌∙◌}
use Rattle.pli_map.specs.views.DescriptionView.{description_view}
use Rattle.pli_map.proofs.MarkLemmas.{scalar_marked}
use Rattle.pli_map.proofs.marks.mark_at_once.Goals as goal

pub returns-then-mark-ne0 : goal.returns-then-mark-ne0
returns-then-mark-ne0 c = scalar_marked (description_view c.args.description.now) _ (c.from.ensures ∙ c.scalar_mark-mark.ensures)
