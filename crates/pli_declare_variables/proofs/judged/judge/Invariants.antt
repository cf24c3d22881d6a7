use Rattle.std.proofs.Common.{◌≡◌, map}
use Rattle.pli_declare.specs.Tables.{numbers_from}
use Rattle.pli_declare_tables.specs.views.TableView.{entries_view}
use Rattle.pli_declare_variables.specs.Judging.{judged_at}
use Rattle.pli_declare_variables.proofs.judged.judge.Given as goal

abbrev pub invariant-loop-number : goal.invariant-loop-number
invariant-loop-number l = l.judged.items ≡ map (judged_at (entries_view l.entries) l.parameters) (numbers_from 0 l.number)
