use Rattle.std.proofs.Common.{◌≡◌, ◌+◌, drop, map}
use Rattle.pli_declare.specs.views.DeclarationView.{declaration_view}
use Rattle.pli_declare.specs.Symbols as spec
use Rattle.pli_resolve_unit.proofs.tables.number_declared.Given as goal

-- the names so far are others
abbrev pub invariant-loop-number : goal.invariant-loop-number
invariant-loop-number l = l.number + spec.number_declared (map declaration_view (drop l.number l.declarations)) l.name ≡ spec.number_declared (map declaration_view l.declarations) l.name
