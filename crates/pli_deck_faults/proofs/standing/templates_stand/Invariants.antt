use Rattle.std.proofs.Common.{◌≡◌, drop, map}
use Rattle.std.specs.List.{list_all}
use Rattle.pli_deck_write.specs.DeckFaults.{is_there, named_by_template}
use Rattle.pli_code.specs.views.CodeView.{code_view, coded_template_view}
use Rattle.pli_deck_faults.proofs.standing.templates_stand.Given as goal

-- what is left passes as all pass
abbrev pub invariant-loop-template : goal.invariant-loop-template
invariant-loop-template l =
    list_all (λ t. list_all (is_there (code_view l.code)) (named_by_template t)) (map coded_template_view (drop l.template-index l.templates))
    ≡ list_all (λ t. list_all (is_there (code_view l.code)) (named_by_template t)) (map coded_template_view l.templates)
