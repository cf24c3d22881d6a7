use Rattle.std.proofs.Common.{rules, ◌≡◌, length, map, ◌∙◌, sym}
use Rattle.std.proofs.lemmas.List.{length-map}
use Rattle.pli_type_operands.specs.views.TypingView.{argument_view}
use Rattle.pli_type_operands.proofs.CallLemmas.{no_area_given}
use Rattle.pli_type_operands.proofs.within.area_given.Goals as goal

pub returns-in_default : goal.returns-in_default
returns-in_default c =
    let given = c.args.arguments.now in
    let other : (length given ≡ 2 → ⊥) = search rules in
    no_area_given (map argument_view given) (λ e. other (sym (length-map given argument_view) ∙ e))
