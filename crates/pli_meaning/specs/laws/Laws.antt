-- The laws of programs: the module that is made of compiled units does what their source means, and a run
-- with a step more goes on from where one with a step less has stopped.
use Rattle.std.specs.Prelude.{◌≡◌, ◌≢◌, ℕ, ◌+◌, Some}
use Rattle.pli_gen_stands.specs.Laws.{AreWellNumbered}
use Rattle.pli_gen_stands.specs.Linked.{IsModuleOf}
use Rattle.pli_code.specs.Modules.{Module}
use Rattle.pli_machine_step.specs.ModuleRuns.{RunsTo}
use Rattle.pli_run.specs.declared.ending.Ending.TheVariants.{MachineFault}
use Rattle.pli_machine_step.specs.Runs.{Outcome}
use Rattle.pli_machine_step.specs.laws.Laws.{GoesOn}
use Rattle.pli_meaning_tree.specs.ProgramMeaning.{TypedProgram, whole_run}
use Rattle.pli_meaning_typed.specs.TypedPrograms.{WellTyped}

-- with so many steps the program has a meaning, which its module's run gives, and which is no fault of the
-- machine
pub record Simulates (t : TypedProgram) (m : Module) (steps : ℕ) : Type 0 where
  pub outcome : Outcome
  pub means : whole_run t steps ≡ Some outcome
  pub runs : RunsTo m steps outcome
  pub no_fault : outcome.ending ≢ MachineFault

-- Simulation
abbrev pub Simulation : Type 0
Simulation =
    (t : TypedProgram) (m : Module) → WellTyped t → AreWellNumbered t.units → IsModuleOf t m → (n : ℕ)
    → Simulates t m n

-- Growth
abbrev pub Growth : Type 0
Growth =
    (t : TypedProgram) (m : Module) → WellTyped t → AreWellNumbered t.units → IsModuleOf t m
    → (n : ℕ) (o p : Outcome) → whole_run t n ≡ Some o → whole_run t (n + 1) ≡ Some p → GoesOn o p
