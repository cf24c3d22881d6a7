use Rattle.std.proofs.Common.{◌≡◌, map}
use Rattle.pli_declare.specs.Tables.{numbers_from}
use Rattle.pli_declare_tables.specs.views.TableView.{entries_view}
use Rattle.pli_declare_variables.specs.answers.Walks.{above_at}
use Rattle.pli_declare_variables.proofs.places.aboves.Given as goal

abbrev pub invariant-loop-entry : goal.invariant-loop-entry
invariant-loop-entry l = l.aboves.items ≡ map (above_at (entries_view l.entries)) (numbers_from 0 l.entry-index)
