use Rattle.std.specs.Io.KnownBytes.{Keeps}
use Rattle.pli_base.proofs.device.read_some.Given as goal

abbrev pub invariant-loop : goal.invariant-loop
invariant-loop g l = Keeps (g.T.Read.remaining l.initial.reader) (g.T.Read.remaining l.reader)
