use Rattle.std.proofs.Common.{◌≡◌, map}
use Rattle.pli_declare.specs.Tables.{numbers_from}
use Rattle.pli_declare_tables.specs.views.TableView.{entries_view}
use Rattle.pli_declare.specs.Descriptions.{is_large_at}
use Rattle.pli_declare_variables.proofs.sizes.too_large.Given as goal

abbrev pub invariant-loop-number : goal.invariant-loop-number
invariant-loop-number l = l.large.items ≡ map (is_large_at (entries_view l.entries) l.codes) (numbers_from 0 l.number)
