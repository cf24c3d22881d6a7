use Rattle.std.proofs.Common.{◌≡◌, ◌++◌, map, drop}
use Rattle.pli_type_tree.specs.views.GlobalView.{globals_view}
use Rattle.pli_code.specs.views.CodeView.{global_view}
use Rattle.pli_gen_emit.specs.Encoding.{global_code}
use Rattle.pli_gen_emit.specs.views.TableView.{tables_view}
use Rattle.pli_gen.proofs.globals.encode_globals.Given as goal

abbrev pub invariant-loop-group : goal.invariant-loop-group
invariant-loop-group l =
    let code = map (global_code (tables_view l.numbers.tables.now)) in
    map global_view l.globals.items ++ code (globals_view (drop l.group-index l.groups)) ≡ map global_view l.initial.globals.items ++ code (globals_view l.groups)
