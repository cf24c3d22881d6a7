use Rattle.std.proofs.Common.{◌≡◌, drop, nat_lt}
use Rattle.std.specs.List.{list_all}
use Rattle.pli_deck_write.specs.DeckFaults.{targets_of}
use Rattle.pli_deck_faults.proofs.standing.jumps_within.Given as goal

-- what is left passes as all pass
abbrev pub invariant-loop-instruction : goal.invariant-loop-instruction
invariant-loop-instruction l =
    list_all (λ i. list_all (λ target. nat_lt target l.count) (targets_of i)) (drop l.instruction-index l.instructions)
    ≡ list_all (λ i. list_all (λ target. nat_lt target l.count) (targets_of i)) l.instructions
