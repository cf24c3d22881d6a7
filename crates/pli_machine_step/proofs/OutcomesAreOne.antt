-- A program's run gives one outcome, since two ends of one run are one.
use Rattle.std.proofs.Common.{sym, ap, ◌∙◌}
use Rattle.std.specs.Prelude.{List}
use Rattle.pli_base.specs.Name.{Name}
use Rattle.pli_world.specs.Ends.{MachineFault}
use Rattle.pli_machine_step.specs.Machine.{State, At, Over}
use Rattle.pli_machine_step.specs.Runs.{Outcome, outcome_of, names_of, start}
use Rattle.pli_machine_step.specs.laws.Laws.{OneOutcome}
use Rattle.pli_machine_step.specs.laws.RunLaws.{one_end}

-- the outcome of a run that is over
outcome_or_fault : List Name → State → Outcome
outcome_or_fault names (At here frames w left) = outcome_of names MachineFault w
outcome_or_fault names (Over ending w) = outcome_of names ending w

pub one_outcome : OneOutcome
unfolding outcome_or_fault
one_outcome p steps one other run again =
    run.gives
    ∙ ap (outcome_or_fault (names_of p)) (one_end p run.count again.count (start p steps) run.ending again.ending run.world again.world run.over again.over)
    ∙ sym again.gives
