use Rattle.std.proofs.Common.{◌≡◌, ◌++◌, map, replicate}
use Rattle.pli_code.specs.CodeTables as plain
use Rattle.pli_code.specs.views.CodeView.{global_view}
use Rattle.pli_gen.proofs.globals.put_own.Given as goal

abbrev pub invariant-loop : goal.invariant-loop
invariant-loop l = map global_view l.globals.items ≡ map global_view l.initial.globals.items ++ replicate l.counter (plain.OwnVariable l.kind l.template)
