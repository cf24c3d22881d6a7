-- The code of a program, made by the translation, is the code that stands for it in the simulation (own). So
-- the module of a well-typed program does what the program means.
use Rattle.std.specs.Prelude.{◌≡◌, ℕ, Some, List, [], ◌∷◌}
use Rattle.pli_machine_step.specs.Runs.{Outcome}
use Rattle.pli_type_tree.specs.TypedTree.{TypedUnit}
use Rattle.pli_code.specs.Modules.{Module, program_of}
use Rattle.pli_machine_step.specs.ModuleRuns.{RunsTo}
use Rattle.pli_gen.specs.WellNumbered.{IsWellNumbered}
use Rattle.pli_meaning_simulation.specs.CodeStands.{ProgramStands}
use Rattle.pli_meaning_tree.specs.ProgramMeaning.{TypedProgram, whole_run}
use Rattle.pli_meaning_typed.specs.TypedPrograms.{WellTyped}
use Rattle.pli_gen_stands.specs.Linked.{IsModuleOf}

-- in all units blocks and statements are numbered well, and loops do not nest too deep
abbrev pub AreWellNumbered : List TypedUnit → Type 0
AreWellNumbered [] = Unit {0}
AreWellNumbered (t ∷ ts) = IsWellNumbered t × AreWellNumbered ts

-- where units are numbered so
abbrev pub CodeStands : Type 0
CodeStands =
    (t : TypedProgram) (m : Module) → AreWellNumbered t.units → IsModuleOf t m
    → ProgramStands t (program_of m)

-- with so many steps a program has a meaning, and the run of its module gives just that
pub record RunsAsMeant (t : TypedProgram) (m : Module) (steps : ℕ) : Type 0 where
  pub outcome : Outcome
  pub meant : whole_run t steps ≡ Some outcome
  pub runs : RunsTo m steps outcome
  pub only : (other : Outcome) → RunsTo m steps other → other ≡ outcome

-- so does every well-typed program, for every number of steps
abbrev pub ProgramsRunAsMeant : Type 0
ProgramsRunAsMeant =
    (t : TypedProgram) (m : Module) → WellTyped t → AreWellNumbered t.units → IsModuleOf t m → (steps : ℕ)
    → RunsAsMeant t m steps
