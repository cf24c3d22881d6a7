use Rattle.std.proofs.Common.{◌≡◌, drop, map}
use Rattle.std.specs.List.{list_all}
use Rattle.pli_base.specs.views.StatementView.{option_view, unit_view}
use Rattle.pli_declare.specs.Resolution.{returned_are, names_nothing}
use Rattle.pli_declare.specs.Declarations.{returned_by}
use Rattle.pli_declare_faults.proofs.heading.returned_name_nothing.Given as goal

abbrev pub invariant-loop-option : goal.invariant-loop-option
invariant-loop-option l =
    list_all (list_all names_nothing) (returned_by (map option_view (drop l.option-index l.option-items)))
    ≡ returned_are (list_all names_nothing) (unit_view l.procedure).heading
