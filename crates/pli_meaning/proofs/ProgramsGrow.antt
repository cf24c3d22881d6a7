-- Growth: with a step more a program goes on.
use Rattle.std.specs.Prelude.{◌≡◌, ℕ, ◌+◌, Some}
use Rattle.std.proofs.Common.{sym, ◌∙◌, subst}
use Rattle.pli_machine_step.specs.Runs.{Outcome}
use Rattle.pli_machine_step.proofs.RunsGrow.{runs_go_on}
use Rattle.pli_gen_stands.specs.Laws.{AreWellNumbered}
use Rattle.pli_gen_stands.specs.Linked.{IsModuleOf}
use Rattle.pli_code.specs.Modules.{Module, program_of}
use Rattle.pli_machine_step.specs.ModuleRuns.{RunsTo}
use Rattle.pli_meaning_tree.specs.ProgramMeaning.{TypedProgram, whole_run}
use Rattle.pli_meaning_typed.specs.TypedPrograms.{WellTyped}
use Rattle.pli_meaning.specs.laws.Laws.{Growth}
use Rattle.pli_meaning.proofs.ProgramsSimulate.{simulation, some_is}

-- what a program means is what its module's run gives
runs_as_meant : (t : TypedProgram) (m : Module) → WellTyped t → AreWellNumbered t.units → IsModuleOf t m → (n : ℕ) (o : Outcome) → whole_run t n ≡ Some o → RunsTo m n o
runs_as_meant t m typed numbered made n o means =
    let s = simulation t m typed numbered made n in subst (RunsTo m n) (some_is s.outcome o (sym s.means ∙ means)) s.runs

pub growth : Growth
growth t m typed numbered made n o q first second =
    runs_go_on (program_of m) n o q (runs_as_meant t m typed numbered made n o first) (runs_as_meant t m typed numbered made (n + 1) q second)
