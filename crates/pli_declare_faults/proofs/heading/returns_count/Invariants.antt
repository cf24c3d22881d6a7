use Rattle.std.proofs.Common.{◌≡◌, ◌+◌, ◌≤◌, length, drop, map}
use Rattle.pli_base.specs.views.StatementView.{option_view}
use Rattle.pli_declare.specs.Declarations.{returned_by}
use Rattle.pli_declare_faults.proofs.heading.returns_count.Given as goal

abbrev pub invariant-loop-option : goal.invariant-loop-option
invariant-loop-option l =
    record {
      counted : l.count + length (returned_by (map option_view (drop l.option-index l.options))) ≡ length (returned_by (map option_view l.options));
      few : l.count ≤ l.option-index;
    }
