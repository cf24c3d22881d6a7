use Rattle.std.proofs.Common.{◌≡◌, ℕ, List, ◌++◌, length}
use Rattle.std.specs.Io.KnownBytes.{Appends}
use Rattle.pli_base.proofs.device.put_all.Given as goal

-- what is gone from `rest` was written
abbrev pub invariant-loop-count : goal.invariant-loop-count
invariant-loop-count g l =
    (done : List ℕ) × (l.initial.rest ≡ done ++ l.rest) × Appends (g.W.Sink.contents l.initial.sink) (g.W.Sink.contents l.sink) done
    × (g.W.Sink.failed l.sink ≡ g.W.Sink.failed l.initial.sink)

abbrev pub decreases-loop-count : goal.decreases-loop-count
decreases-loop-count g l = length l.rest
