use Rattle.std.proofs.Common.{◌≡◌, drop, map}
use Rattle.pli_base.specs.views.StatementView.{option_view}
use Rattle.pli_declare.specs.Declarations.{returned_by}
use Rattle.pli_declare_variables.proofs.returned.first_returned.Given as goal

abbrev pub invariant-loop-option : goal.invariant-loop-option
invariant-loop-option l = returned_by (map option_view (drop l.option-index l.options)) ≡ returned_by (map option_view l.options)
