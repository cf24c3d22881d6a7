use Rattle.std.proofs.Common.{◌≡◌, drop}
use Rattle.std.specs.List.{list_all}
use Rattle.pli_deck_write.specs.DeckFaults.{is_there, named_by_instruction}
use Rattle.pli_code.specs.views.CodeView.{code_view}
use Rattle.pli_deck_faults.proofs.standing.instructions_stand.Given as goal

-- what is left passes as all pass
abbrev pub invariant-loop-instruction : goal.invariant-loop-instruction
invariant-loop-instruction l =
    list_all (λ i. list_all (is_there (code_view l.code)) (named_by_instruction i)) (drop l.instruction-index l.instructions)
    ≡ list_all (λ i. list_all (is_there (code_view l.code)) (named_by_instruction i)) l.instructions
