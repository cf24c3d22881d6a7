use Rattle.std.proofs.Common.{◌≡◌, ◌++◌, [], map, take, drop}
use Rattle.std.specs.List.{list_any}
use Rattle.pli_base.specs.Name.{Name}
use Rattle.pli_base.specs.Words.{same_name}
use Rattle.pli_declare_outline.specs.views.OutlineView.{outline_view}
use Rattle.pli_declare.specs.Resolution.{parameter_codes}
use Rattle.pli_declare_faults.proofs.parameters.tell_parameters.Given as goal

-- the names so far, and the faults so far in front of those of what is left
abbrev pub invariant-loop-parameter : goal.invariant-loop-parameter
invariant-loop-parameter l =
    let names = map (λ i. i.name) (take l.parameter-index l.parameters) in
    record {
      seen : (name : Name) → list_any (same_name name) l.before.keys ≡ list_any (same_name name) names;
      told : l.faults.items ++ parameter_codes (outline_view l.outline) l.region names (drop l.parameter-index l.parameters)
          ≡ l.initial.faults.items ++ parameter_codes (outline_view l.outline) l.region [] l.parameters;
    }
