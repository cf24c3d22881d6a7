use Rattle.std.proofs.Common.{map, option_map, vec_len}
use Rattle.std.specs.List.{All}
use Rattle.pli_type_names.specs.OnWays.{IsLevel}
use Rattle.pli_type_names.specs.views.VariableView.{own_view}
use Rattle.pli_type_names.proofs.levels.part_after.Given as goal

-- structures to which ways lead
abbrev pub invariant-loop-found : goal.invariant-loop-found
invariant-loop-found l = All (IsLevel (map (option_map own_view) l.variables)) l.levels.items

abbrev pub decreases-loop-found : goal.decreases-loop-found
decreases-loop-found l = vec_len l.levels
