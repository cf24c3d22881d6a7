use Rattle.pli_machine_loading.specs.answers.AskedForms.{AreAmong, AreAskedTo}
use Rattle.pli_machine_loading.proofs.asking.with_code.Given as goal

-- the forms so far are those of the instructions so far, and those of before
abbrev pub invariant-loop-instruction : goal.invariant-loop-instruction
invariant-loop-instruction l = record {
  asked : AreAskedTo l.instruction-index l.code.instructions.items l.all;
  among : AreAmong l.fn.forms l.all;
}
