use Rattle.std.proofs.Common.{◌≡◌, drop, map}
use Rattle.std.specs.List.{list_any}
use Rattle.pli_base.specs.views.StatementView.{option_view}
use Rattle.pli_declare.specs.Resolution.{is_main}
use Rattle.pli_declare_faults.proofs.heading.has_main.Given as goal

abbrev pub invariant-loop-option : goal.invariant-loop-option
invariant-loop-option l = list_any is_main (map option_view (drop l.option-index l.options)) ≡ list_any is_main (map option_view l.options)
