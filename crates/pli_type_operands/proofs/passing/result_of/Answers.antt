use Rattle.std.proofs.Common.{Ok, option_map, ap, ◌∙◌, sym}
use Rattle.pli_map.specs.views.DescriptionView.{description_view}
use Rattle.pli_type_rules.specs.ProcedureCalls as spec
use Rattle.pli_type_rules.specs.TypingSteps as steps
use Rattle.pli_type_tree.specs.laws.TypedTreeLaws.{called_made}
use Rattle.pli_type_tree.specs.views.TypedView.{arguments_view, callee_view}
use Rattle.pli_type_operands.proofs.passing.result_of.Goals as goal

pub returns-in-Some-of : goal.returns-in-Some-of
returns-in-Some-of c =
    let given = spec.result_of c.args.at (callee_view c.args.callee) (arguments_view c.args.arguments.items) in
    ap (λ r. given (steps.type_returned c.args.area (option_map (λ d. description_view d.now) r))) c.in-Some.is
    ∙ ap given (sym c.in-Some-of.ensures)
    ∙ ap (λ x. Ok (record { expression = x; kind = c.in-Some-of.kind })) (sym (called_made c.args.callee c.args.arguments))
