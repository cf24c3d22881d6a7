-- What came of serving a new workbench.
use Rattle.std.proofs.Common.{◌≡◌, ℕ, Result, subst}
use Rattle.pli_commands.specs.Exchanges.{span}
use Rattle.pli_bench.specs.Session.{State, Step, quits, opened}
use Rattle.pli_commands.specs.Runs.{Service, Served, Takes, Blames, piece_limit}
use Rattle.pli_commands.specs.declared.serving.AfterCommand.{AfterCommand}
use Rattle.pli_commands.specs.declared.serving.ServeFault.{ServeFault}
use Rattle.pli_bench.specs.Statuses.{Devices, Serves}

-- a workbench in this state serves
abbrev from : State → (reads : ℕ) → Devices → (last : State) → Service State
from first reads d last =
    record { state = span first last; reader = d.reader; writer = d.writer; reads = reads }

-- serving what was just opened
pub serves : (steps reads : ℕ) (first last : State) (d : Devices) (result : Result AfterCommand ServeFault)
    → first ≡ opened steps → Served Step quits (from first reads d last) result
    → Takes quits piece_limit (from first reads d last) result
    → Blames result d.reader_failed d.writer_failed → Serves steps reads d result
serves steps reads first last d result is served few blamed = record {
  last = last;
  served = subst (λ s. Served Step quits (from s reads d last) result) is served;
  few = subst (λ s. Takes quits piece_limit (from s reads d last) result) is few;
  blamed = blamed;
}
