use Rattle.std.proofs.Common.{◌≡◌, map}
use Rattle.pli_declare.specs.Tables.{numbers_from}
use Rattle.pli_declare_tables.specs.views.TableView.{entries_view}
use Rattle.pli_declare.specs.Declarations.{declaration_at}
use Rattle.pli_declare.specs.views.DeclarationView.{declaration_view}
use Rattle.pli_declare_variables.proofs.declared.declare.Given as goal

abbrev pub invariant-loop-number : goal.invariant-loop-number
invariant-loop-number l = map declaration_view l.declarations.items ≡ map (declaration_at (entries_view l.entries) l.parameters) (numbers_from 0 l.number)
