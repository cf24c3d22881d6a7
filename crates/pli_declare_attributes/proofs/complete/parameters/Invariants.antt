use Rattle.std.proofs.Common.{◌≡◌, None, map, take, drop}
use Rattle.pli_base.specs.views.DeclarationView.{parameter_view}
use Rattle.pli_map.specs.views.ParameterView.{type_view}
use Rattle.pli_declare.specs.Faults.{parameter_of, parameters_fault}
use Rattle.pli_declare_attributes.proofs.complete.parameters.Given as goal

abbrev pub invariant-loop-description : goal.invariant-loop-description
invariant-loop-description l =
    record {
      done : map type_view l.all.items ≡ map parameter_of (map parameter_view (take l.description-index l.descriptions));
      good : parameters_fault (map parameter_view (drop l.description-index l.descriptions)) ≡ None;
    }
