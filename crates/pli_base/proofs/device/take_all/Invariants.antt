use Rattle.std.proofs.Common.{◌≡◌, ◌≤◌, ◌-◌, length, take}
use Rattle.std.specs.Io.KnownBytes.{Consumes}
use Rattle.pli_base.proofs.device.take_all.Given as goal

-- what was taken is the front of the buffer
abbrev pub invariant-loop-count : goal.invariant-loop-count
invariant-loop-count g l =
    (length l.buffer ≡ length l.initial.buffer) × (l.filled ≤ length l.buffer)
    × Consumes (g.R.Source.remaining l.initial.source) (g.R.Source.remaining l.source) (take l.filled l.buffer)
    × (g.R.Source.failed l.source ≡ g.R.Source.failed l.initial.source)

abbrev pub decreases-loop-count : goal.decreases-loop-count
decreases-loop-count g l = length l.initial.buffer - l.filled
