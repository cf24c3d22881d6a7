use Rattle.std.specs.Io.KnownBytes.{Keeps}
use Rattle.pli_base.proofs.device.write_some.Given as goal

abbrev pub invariant-loop : goal.invariant-loop
invariant-loop g l = Keeps (g.T.Write.contents l.initial.writer) (g.T.Write.contents l.writer)
