use Rattle.std.proofs.Common.{Some, suc, length, ap, sym, ◌∙◌, arith}
use Rattle.pli_world.specs.Conditions.{handler, or_older}
use Rattle.pli_machine_activations.specs.views.MachineView.{activations_of}
use Rattle.pli_machine_activations.proofs.SlotPlaces.{how_many}
use Rattle.pli_machine_activations.proofs.conditions.find_handler.Goals as goal

pub returns-in-Some : goal.returns-in-Some
returns-in-Some c = λ image put.
    let m = c.args.machine.now in
    let older = activations_of m.waiting.items in
    ap (λ o. or_older o m.here.unit (suc (length older)) (handler c.args.condition older)) (sym c.unit_for.ensures ∙ c.in-Some.is)
    ∙ ap (λ n. Some (record { unit = m.here.unit; block = c.in-Some.block; link = n })) (omega (arith, how_many m.waiting.items))

pub returns-in-None : goal.returns-in-None
returns-in-None c = λ image put.
    let m = c.args.machine.now in
    let older = activations_of m.waiting.items in
    ap (λ o. or_older o m.here.unit (suc (length older)) (handler c.args.condition older)) (sym c.unit_for.ensures ∙ c.in-None.is)
    ∙ c.waiting_handler.ensures
