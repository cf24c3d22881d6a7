use Rattle.std.proofs.Common.{ap, ◌∙◌}
use Rattle.pli_map.specs.Scalars.{scalars_of}
use Rattle.pli_map.specs.Values.{are_held, first_values}
use Rattle.pli_map.specs.views.DescriptionView.{description_view}
use Rattle.pli_map.proofs.FirstHeld.{firsts_held}
use Rattle.pli_bytes.proofs.Laid.{laid_whole}
use Rattle.pli_bytes.proofs.beginning.lay_first.Goals as goal

pub returns-clause-laid : goal.returns-clause-laid
returns-clause-laid c =
    let d = description_view c.args.description.now in
    laid_whole d (first_values d) c.args.bytes.now c.lay_first_at.new.bytes c.lay_first_at.ensures

pub returns-clause-held : goal.returns-clause-held
returns-clause-held c =
    let d = description_view c.args.description.now in
    ap (are_held (scalars_of d)) (laid_whole d (first_values d) c.args.bytes.now c.lay_first_at.new.bytes c.lay_first_at.ensures) ∙ firsts_held d
