use Rattle.std.proofs.Common.{◌≡◌, drop, map}
use Rattle.std.specs.List.{list_all}
use Rattle.pli_deck_write.specs.DeckFaults.{is_there, named_by_global}
use Rattle.pli_code.specs.views.CodeView.{code_view, global_view}
use Rattle.pli_deck_faults.proofs.standing.globals_stand.Given as goal

-- what is left passes as all pass
abbrev pub invariant-loop-global : goal.invariant-loop-global
invariant-loop-global l =
    list_all (λ x. list_all (is_there (code_view l.code)) (named_by_global x)) (map global_view (drop l.global-index l.globals))
    ≡ list_all (λ x. list_all (is_there (code_view l.code)) (named_by_global x)) (map global_view l.globals)
