use Rattle.std.proofs.Common.{map, option_map}
use Rattle.pli_type_names.specs.views.VariableView.{own_view}
use Rattle.pli_type_names.proofs.levels.part_on_way.Goals as goal

pub returns-clause-levels : goal.returns-clause-levels
returns-clause-levels c =
    c.in_ok-note.ensures (map (option_map own_view) c.args.variables.now) c.in_ok-part.ensures.part c.in_ok-part.ensures.levels
