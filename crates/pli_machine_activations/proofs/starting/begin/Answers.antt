use Rattle.std.proofs.Common.{refl, ap}
use Rattle.std.proofs.lemmas.Result.{IfOk-weaker}
use Rattle.pli_machine_step.specs.Machine.{resume}
use Rattle.pli_machine_step.specs.Runs.{main_unit}
use Rattle.pli_world.specs.Ends.{MachineFault}
use Rattle.pli_code.specs.views.CodeView.{module_view}
use Rattle.pli_machine_activations.specs.answers.Making.{first_world}
use Rattle.pli_machine_activations.specs.views.Image.{image_with}
use Rattle.pli_machine_activations.specs.views.MachineView.{shown}
use Rattle.pli_machine_activations.proofs.BeginningLemmas.{begins_as}
use Rattle.pli_machine_activations.proofs.LinkedUnits.{code_there, none_there, named_there}
use Rattle.pli_machine_activations.proofs.starting.begin.Goals as goal

pub returns-in-Some : goal.returns-in-Some
returns-in-Some c =
    let md = c.args.«module».now in
    let u = c.in-Some.unit.now in
    let there = rw c.in-Some.is at c.linked_at.ensures in
    IfOk-weaker c.begin_first.result _ _
    (λ b begins statics.
    begins_as (image_with (module_view md) statics) _ _ b
    (ap (λ o. resume (main_unit md.main o (first_world c.args.storage c.args.stacks statics)) c.args.limit) (code_there md md.main u there))
    (begins (image_with (module_view md) statics) (named_there md md.main u there)))
    c.begin_first.ensures

pub returns : goal.returns
returns c = λ statics.
    let md = c.args.«module».now in
    let there = rw c.in-None.is at c.linked_at.ensures in
    record {
      end = MachineFault;
      over =
          ap (λ o. shown (resume (main_unit md.main o (first_world c.args.storage c.args.stacks statics)) c.args.limit))
          (none_there md md.main there);
      is = refl;
    }
