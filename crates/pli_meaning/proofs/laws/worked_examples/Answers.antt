use Rattle.pli_meaning.proofs.ScratchExamplesHold.{first_is_made, runs_with_three, runs_with_two, types_are_told}
use Rattle.pli_meaning.proofs.laws.worked_examples.Goals as goal

pub returns-clause-made : goal.returns-clause-made
returns-clause-made c = first_is_made

pub returns-clause-three_steps_run : goal.returns-clause-three_steps_run
returns-clause-three_steps_run c = runs_with_three

pub returns-clause-two_steps_run : goal.returns-clause-two_steps_run
returns-clause-two_steps_run c = runs_with_two

pub returns-clause-told : goal.returns-clause-told
returns-clause-told c = types_are_told
