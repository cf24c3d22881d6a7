-- A program of units does what it means, on the machine.
use Rattle.std.specs.Prelude.{◌≡◌, Some}
use Rattle.pli_gen_stands.proofs.ProgramsRun.{programs_run}
use Rattle.pli_meaning_simulation.proofs.ProgramsSimulate.{no_fault}
use Rattle.pli_meaning.specs.laws.Laws.{Simulation}

-- what is there is one
pub some_is : {A : Type 0} (x y : A) → Some x ≡ Some y → x ≡ y
some_is x y e = cc

pub simulation : Simulation
simulation t m typed numbered made n =
    let run = programs_run t m typed numbered made n in
    record { outcome = run.outcome; means = run.meant; runs = run.runs; no_fault = no_fault t n run.outcome run.meant }
