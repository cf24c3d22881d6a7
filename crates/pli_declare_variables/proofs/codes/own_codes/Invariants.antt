use Rattle.std.proofs.Common.{◌≡◌, List, length, map}
use Rattle.pli_base.specs.Name.{Name}
use Rattle.pli_declare.specs.Tables.{numbers_from}
use Rattle.pli_declare_tables.specs.views.TableView.{entries_view}
use Rattle.pli_declare.specs.Places.{own_code}
use Rattle.pli_declare_variables.specs.answers.Walks.{cut_place_in}
use Rattle.pli_declare_variables.proofs.codes.own_codes.Given as goal

abbrev pub invariant-loop-number : goal.invariant-loop-number
invariant-loop-number l =
    (names : List Name) → l.places ≡ map (cut_place_in (entries_view l.entries) names) (numbers_from 0 (length l.entries))
    → l.codes.items ≡ map (own_code (entries_view l.entries) names) (numbers_from 0 l.number)
