use Rattle.std.proofs.Common.{◌≡◌, ℕ, List, drop}
use Rattle.pli_machine_activations.specs.views.Image.{Image}
use Rattle.pli_world.specs.World.{made_all}
use Rattle.pli_code.specs.CodeTables.{variables_at}
use Rattle.pli_code.specs.views.CodeView.{code_view}
use Rattle.pli_machine_activations.specs.answers.Activated.{SameFrames}
use Rattle.pli_machine_activations.specs.views.MachineView.{world_of}
use Rattle.pli_machine_activations.proofs.variables.make_some.Given as goal

-- the variables that are left are made in the world as it is now
abbrev pub invariant-loop-variable : goal.invariant-loop-variable
invariant-loop-variable l = record {
  made : (image : Image) (put : List ℕ) → made_all (variables_at (code_view l.ready.code.now) l.variables) (world_of image l.initial.machine put)
      ≡ made_all (variables_at (code_view l.ready.code.now) (drop l.variable-index l.variables)) (world_of image l.machine put);
  same : SameFrames l.initial.machine l.machine;
}
