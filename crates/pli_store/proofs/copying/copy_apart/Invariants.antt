use Rattle.std.proofs.Common.{◌-◌, ◌<◌, ◌≤◌, length}
use Rattle.pli_store.specs.answers.Puts.{BytesCopied}
use Rattle.pli_store.proofs.copying.copy_apart.Given as goal

abbrev pub invariant-loop-done : goal.invariant-loop-done
invariant-loop-done l = record {
  so_far : l.done ≤ l.size;
  source_lives : l.from.at < length l.generations;
  target_lives : l.to.at < length l.generations;
  copied : BytesCopied l.fn.generations l.generations l.from l.to l.done;
}

abbrev pub decreases-loop-done : goal.decreases-loop-done
decreases-loop-done l = l.size - l.done
