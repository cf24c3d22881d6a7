use Rattle.std.proofs.Common.{◌≡◌, drop}
use Rattle.std.specs.List.{list_all}
use Rattle.pli_deck_write.specs.DeckFaults.{is_there, OfParameter}
use Rattle.pli_code.specs.views.CodeView.{code_view}
use Rattle.pli_deck_faults.proofs.standing.types_stand.Given as goal

-- what is left passes as all pass
abbrev pub invariant-loop-number : goal.invariant-loop-number
invariant-loop-number l =
    list_all (λ n. is_there (code_view l.code) (OfParameter n)) (drop l.number-index l.numbers)
    ≡ list_all (λ n. is_there (code_view l.code) (OfParameter n)) l.numbers
