use Rattle.std.proofs.Common.{sym, ap, ◌∙◌}
use Rattle.pli_world.specs.Activations.{outward_from}
use Rattle.pli_machine_activations.specs.views.MachineView.{activations_of}
use Rattle.pli_machine_activations.proofs.DisplayLemmas.{stands}
use Rattle.pli_machine_activations.proofs.walk.outer_place.Goals as goal

pub returns-in-Some-clause-found : goal.returns-in-Some-clause-found
returns-in-Some-clause-found c =
    let m = c.args.machine.now in
    ap (λ h. outward_from (activations_of m.waiting.items) h c.args.outward) (sym c.in-Some.ensures.0)
    ∙ m.displayed.shown c.args.outward c.in-Some.place c.in-Some.ensures.1

pub returns-in-Some-clause-within : goal.returns-in-Some-clause-within
returns-in-Some-clause-within c =
    let m = c.args.machine.now in
    stands m.waiting.items m.display.link m.display.places.items c.args.outward c.in-Some.place m.displayed
    c.in-Some.ensures.1

pub returns-in-None-clause-found : goal.returns-in-None-clause-found
returns-in-None-clause-found c = rw c.deref.ensures.value at c.outer.ensures.found

pub returns-in-None-clause-within : goal.returns-in-None-clause-within
returns-in-None-clause-within c = rw c.deref.ensures.value at c.outer.ensures.within
