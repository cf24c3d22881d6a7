use Rattle.std.proofs.Common.{◌≡◌, ◌++◌, map, drop}
use Rattle.pli_code.specs.CodeTables as plain
use Rattle.pli_code.specs.views.CodeView.{global_view}
use Rattle.pli_gen.proofs.globals.put_external.Given as goal

abbrev pub invariant-loop-name : goal.invariant-loop-name
invariant-loop-name l =
    let code = map (λ name. plain.ExternalVariable name l.kind l.template) in
    map global_view l.globals.items ++ code (drop l.name-index l.names) ≡ map global_view l.initial.globals.items ++ code l.names
