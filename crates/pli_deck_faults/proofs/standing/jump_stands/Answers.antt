use Rattle.std.proofs.Common.{sym, ap, nat_lt}
use Rattle.std.specs.List.{list_all}
use Rattle.pli_deck_faults.proofs.NamelessLemmas.{jumps_nowhere}
use Rattle.pli_deck_faults.proofs.standing.jump_stands.Goals as goal

pub returns-in_default : goal.returns-in_default
returns-in_default c =
    sym (ap (list_all (λ i. nat_lt i c.args.count)) (jumps_nowhere c.args.instruction.now c.in_default.not-Jump c.in_default.not-JumpUnless c.in_default.not-Goto c.in_default.not-AllocateInArea))
