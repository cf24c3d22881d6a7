use Rattle.pli_declare_scopes.specs.answers.Leaps.{rank}
use Rattle.pli_declare_scopes.proofs.CandidateLemmas.{Looking}
use Rattle.pli_declare_scopes.proofs.block.BlockItems.found_partly.Given as goal

abbrev pub invariant-loop-next : goal.invariant-loop-next
invariant-loop-next l = Looking l.self-inside.items.items l.names l.next l.found

abbrev pub decreases-loop-next : goal.decreases-loop-next
decreases-loop-next l = rank l.next
