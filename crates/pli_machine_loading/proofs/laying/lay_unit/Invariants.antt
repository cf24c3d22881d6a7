use Rattle.std.proofs.Common.{◌≡◌, length}
use Rattle.pli_code.specs.views.CodeView.{code_view}
use Rattle.pli_machine_activations.specs.answers.LaidTemplates.{AreLaid}
use Rattle.pli_machine_loading.proofs.laying.lay_unit.Given as goal

-- the templates so far are laid
abbrev pub invariant-loop-number : goal.invariant-loop-number
invariant-loop-number l = record {
  count : length l.laid.items ≡ l.number;
  laid : AreLaid (code_view l.code) l.laid.items;
}
