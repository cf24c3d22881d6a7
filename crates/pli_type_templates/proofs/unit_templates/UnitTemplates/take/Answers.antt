use Rattle.std.proofs.Common.{[], get_or, map, ap, ◌∙◌}
use Rattle.std.proofs.lemmas.List.{map-set, get_or-set_other}
use Rattle.pli_type_templates.specs.views.UnitView.{row_view}
use Rattle.pli_type_templates.proofs.unit_templates.UnitTemplates.take.Goals as goal

pub returns-clause-others : goal.returns-clause-others
returns-clause-others c = λ k other.
    let rows = c.args.self.now.automatic.items in
    let left = c.replace.new.dest in
    ap (λ xs. get_or xs k []) (map-set row_view rows c.args.block left)
    ∙ get_or-set_other (map row_view rows) c.args.block k (row_view left) [] other
