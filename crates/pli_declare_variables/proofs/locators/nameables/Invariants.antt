use Rattle.std.proofs.Common.{◌≡◌, map}
use Rattle.pli_declare.specs.Tables.{numbers_from}
use Rattle.pli_declare_tables.specs.views.TableView.{entries_view}
use Rattle.pli_declare_variables.specs.answers.Walks.{chain_at, nameable_at}
use Rattle.pli_declare_variables.proofs.locators.nameables.Given as goal

abbrev pub invariant-loop-entry : goal.invariant-loop-entry
invariant-loop-entry l =
    record {
      chains : l.chains.items ≡ map (chain_at (entries_view l.entries)) (numbers_from 0 l.entry-index);
      all : l.all.items ≡ map (nameable_at (entries_view l.entries)) (numbers_from 0 l.entry-index);
    }
