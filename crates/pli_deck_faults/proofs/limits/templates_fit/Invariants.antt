use Rattle.std.proofs.Common.{◌≡◌, drop, map}
use Rattle.pli_code.specs.views.CodeView.{code_view, coded_template_view}
use Rattle.pli_deck_faults.specs.Counted.{keep_limits}
use Rattle.pli_deck_faults.specs.Places.{placed_type, all_placed}
use Rattle.pli_deck_faults.proofs.limits.templates_fit.Given as goal

-- the templates that are left keep what is left of the limit where all keep the limit
abbrev pub invariant-loop-template : goal.invariant-loop-template
invariant-loop-template l =
    all_placed l.placed ≡ map placed_type (code_view l.code).descriptions
    → keep_limits (code_view l.code) (map coded_template_view (drop l.template-index l.templates)) l.left
    ≡ keep_limits (code_view l.code) (map coded_template_view l.templates) 16777216
