-- The laws: the code of a program does what the program means, and with a step more a program goes on.
use Rattle.std.specs.Prelude.{◌≡◌, ◌≢◌, ℕ, ◌+◌, Some}
use Rattle.pli_run.specs.declared.ending.Ending.TheVariants.{MachineFault}
use Rattle.pli_program.specs.Program.{Program}
use Rattle.pli_machine_step.specs.Runs.{Outcome, ProgramRunsTo}
use Rattle.pli_machine_step.specs.laws.Laws.{GoesOn}
use Rattle.pli_meaning_tree.specs.ProgramMeaning.{TypedProgram, whole_run}
use Rattle.pli_meaning_simulation.specs.CodeStands.{ProgramStands}

-- Simulation: what a program means with so many steps, the run of its code gives with so many steps
abbrev pub Simulation : Type 0
Simulation =
    (t : TypedProgram) (p : Program) → ProgramStands t p → (n : ℕ) (o : Outcome) → whole_run t n ≡ Some o
    → ProgramRunsTo p n o

-- no meaning is a fault of the machine
abbrev pub NoFault : Type 0
NoFault =
    (t : TypedProgram) (n : ℕ) (o : Outcome) → whole_run t n ≡ Some o → o.ending ≢ MachineFault

-- Growth: with a step more the output of a program goes on, and a run that did not run out of steps is
-- the same
abbrev pub Growth : Type 0
Growth =
    (t : TypedProgram) (p : Program) → ProgramStands t p → (n : ℕ) (before after : Outcome)
    → whole_run t n ≡ Some before → whole_run t (n + 1) ≡ Some after → GoesOn before after
