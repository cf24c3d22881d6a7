use Rattle.std.proofs.Common.{refl, sym, subst}
use Rattle.pli_machine_operate.specs.views.OperandView.{taken_operand}
use Rattle.pli_machine_activations.specs.answers.Used.{IsUsedUp}
use Rattle.pli_machine_activations.proofs.dummies.use_up.Goals as goal

pub returns-in-OfReference : goal.returns-in-OfReference
returns-in-OfReference c =
    let m = c.args.machine.now in
    subst (λ t. IsUsedUp (taken_operand t) m m) (sym c.in-OfReference.is)
    (record { world = λ image put. refl; here = refl; frames = refl; left = refl })

pub returns-in-OfDummy : goal.returns-in-OfDummy
returns-in-OfDummy c =
    subst (λ t. IsUsedUp (taken_operand t) c.args.machine.now c.end_dummy.new.machine) (sym c.in-OfDummy.is) c.end_dummy.ensures
