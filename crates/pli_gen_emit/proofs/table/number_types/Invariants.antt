use Rattle.std.proofs.Common.{map, drop, []}
use Rattle.pli_map.specs.views.ParameterView.{type_view}
use Rattle.pli_gen_emit.proofs.NumberingLemmas.{IsNumbering}
use Rattle.pli_gen_emit.proofs.table.number_types.Given as goal

abbrev pub invariant-loop-parameter : goal.invariant-loop-parameter
invariant-loop-parameter l =
    IsNumbering l.initial.tables l.tables (map type_view (drop l.parameter-index l.types)) [] [] (map type_view l.types) [] []
