use Rattle.std.proofs.Common.{◌≡◌, drop, map}
use Rattle.pli_declare.specs.Faults.{lesser, result_fault}
use Rattle.pli_base.specs.views.StatementView.{option_view}
use Rattle.pli_declare.specs.Resolution.{least}
use Rattle.pli_declare.specs.Declarations.{returned_by}
use Rattle.pli_declare_faults.proofs.heading.returned_fault.Given as goal

-- the least so far and that of what is left
abbrev pub invariant-loop-option : goal.invariant-loop-option
invariant-loop-option l =
    lesser l.least (least (map result_fault (returned_by (map option_view (drop l.option-index l.options))))) ≡ least (map result_fault (returned_by (map option_view l.options)))
