use Rattle.pli_machine_loading.specs.answers.AskedForms.{UnitsAskedTo}
use Rattle.pli_machine_loading.proofs.asking.forms_in.Given as goal

-- the forms so far are those of the units so far
abbrev pub invariant-loop-unit : goal.invariant-loop-unit
invariant-loop-unit l = UnitsAskedTo l.unit-index l.«module».units.items l.forms
