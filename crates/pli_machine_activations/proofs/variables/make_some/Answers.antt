use Rattle.std.proofs.Common.{◌+◌, drop, ap, ◌∙◌}
use Rattle.std.proofs.lemmas.List.{drop_more}
use Rattle.pli_world.specs.World.{made_all}
use Rattle.pli_code.specs.CodeTables.{variables_at}
use Rattle.pli_code.specs.views.CodeView.{code_view}
use Rattle.pli_machine_activations.specs.views.MachineView.{world_of}
use Rattle.pli_machine_activations.proofs.MadeVariables.{same_then}
use Rattle.pli_machine_activations.proofs.variables.make_some.Goals as goal

pub loop-variable-preserved : goal.loop-variable-preserved
loop-variable-preserved c =
    let l = c.loop-variable in
    let variables = c.args.variables.now in
    record {
      made = λ image put.
          l.invariant.made image put
          ∙ ap (λ ns. made_all (variables_at (code_view c.args.ready.code.now) ns) (world_of image l.machine put)) (drop_more variables l.variable-index 0 c.loop-variable-test.true)
          ∙ c.in-Ok.ensures.made (drop (l.variable-index + 1) variables) image put;
      same = same_then c.args.machine.now l.machine c.make_numbered.new.machine l.invariant.same c.in-Ok.ensures.same;
    }
