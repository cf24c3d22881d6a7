use Rattle.std.proofs.Common.{◌+◌, ◌∙◌, drop, map, sym, ap}
use Rattle.std.proofs.lemmas.List.{at_drop_more}
use Rattle.pli_base.specs.views.DeclarationView.{parameter_view}
use Rattle.pli_declare.specs.Faults.{lesser, parameter_fault, parameters_fault}
use Rattle.pli_declare.proofs.LeastFaults.{lesser_grouped}
use Rattle.pli_declare_attributes.proofs.faults.parameters_fault.Goals as goal

pub loop-description-preserved : goal.loop-description-preserved
loop-description-preserved c =
    let l = c.loop-description in
    let left = parameters_fault (map parameter_view (drop (l.description-index + 1) c.args.descriptions.now)) in
    let step = at_drop_more (λ ds. parameters_fault (map parameter_view ds)) c.args.descriptions.now l.description-index c.description-item.result c.loop-description-test.true in
    let fault = parameter_fault (parameter_view c.description-item.result) in
    ap (λ a. lesser a left) (c.lesser-least.ensures ∙ ap (lesser l.least) c.parameter_fault.ensures)
    ∙ lesser_grouped l.least fault left
    ∙ ap (lesser l.least) (sym (step ∙ ap (λ d. lesser (parameter_fault (parameter_view d)) left) (sym c.description-item.is)))
    ∙ l.invariant
