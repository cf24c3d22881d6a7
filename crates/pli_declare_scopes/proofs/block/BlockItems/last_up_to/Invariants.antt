use Rattle.pli_declare_scopes.specs.answers.Leaps.{rank}
use Rattle.pli_declare_scopes.proofs.LeapsKept.{Seeking}
use Rattle.pli_declare_scopes.proofs.block.BlockItems.last_up_to.Given as goal

abbrev pub invariant-loop-next : goal.invariant-loop-next
invariant-loop-next l = Seeking l.self-inside.items.items l.fn.name l.bound l.next

abbrev pub decreases-loop-next : goal.decreases-loop-next
decreases-loop-next l = rank l.next
