use Rattle.std.proofs.Common.{◌≡◌, drop, map}
use Rattle.pli_base.specs.views.DeclarationView.{parameter_view}
use Rattle.pli_declare.specs.Faults.{lesser, parameters_fault}
use Rattle.pli_declare_attributes.proofs.faults.parameters_fault.Given as goal

-- the least so far and that of what is left
abbrev pub invariant-loop-description : goal.invariant-loop-description
invariant-loop-description l =
    lesser l.least (parameters_fault (map parameter_view (drop l.description-index l.descriptions))) ≡ parameters_fault (map parameter_view l.descriptions)
