use Rattle.std.proofs.Common.{◌≡◌, take, map}
use Rattle.pli_declare.specs.views.DeclarationView.{declaration_view}
use Rattle.pli_declare.specs.Symbols as spec
use Rattle.pli_resolve_unit.proofs.tables.parameter_numbers.Given as goal

abbrev pub invariant-loop-parameter : goal.invariant-loop-parameter
invariant-loop-parameter l = l.numbers.items ≡ map (spec.number_declared (map declaration_view l.declarations)) (take l.parameter-index l.parameters)
