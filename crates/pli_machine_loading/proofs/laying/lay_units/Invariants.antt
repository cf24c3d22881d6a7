use Rattle.std.proofs.Common.{◌≡◌, length}
use Rattle.pli_machine_activations.specs.answers.LaidTemplates.{UnitsLaid}
use Rattle.pli_machine_loading.proofs.laying.lay_units.Given as goal

-- the units so far are laid
abbrev pub invariant-loop-unit : goal.invariant-loop-unit
invariant-loop-unit l = record {
  count : length l.laid.items ≡ l.unit-index;
  laid : UnitsLaid l.«module».units.items l.laid.items;
}
