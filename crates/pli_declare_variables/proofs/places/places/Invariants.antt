use Rattle.std.proofs.Common.{◌≡◌, map}
use Rattle.pli_declare.specs.Tables.{numbers_from}
use Rattle.pli_declare_tables.specs.views.TableView.{entries_view}
use Rattle.pli_declare_variables.specs.answers.Walks.{cut_place_in}
use Rattle.pli_declare_variables.proofs.places.places.Given as goal

abbrev pub invariant-loop-number : goal.invariant-loop-number
invariant-loop-number l = l.places.items ≡ map (cut_place_in (entries_view l.entries) l.fn.parameters) (numbers_from 0 l.number)
