use Rattle.std.proofs.Common.{◌≡◌, ◌++◌, map, drop}
use Rattle.pli_map.specs.views.ParameterView.{type_view}
use Rattle.pli_gen_emit.specs.Encoding.{description_number}
use Rattle.pli_gen_emit.specs.views.TableView.{tables_view}
use Rattle.pli_gen.proofs.globals.encode_types.Given as goal

abbrev pub invariant-loop-parameter : goal.invariant-loop-parameter
invariant-loop-parameter l =
    let number = description_number (tables_view l.numbers.tables.now) in
    l.list.items ++ map number (map type_view (drop l.parameter-index l.types)) ≡ l.initial.list.items ++ map number (map type_view l.types)
