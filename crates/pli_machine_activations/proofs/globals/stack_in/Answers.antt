use Rattle.std.proofs.Common.{length, Some, refl, sym, ap, ◌∙◌}
use Rattle.std.proofs.lemmas.Option.{slice_get_read, slice_get_past}
use Rattle.pli_machine_activations.specs.views.TableView.{stack_at, standing_of}
use Rattle.pli_machine_activations.proofs.globals.stack_in.Goals as goal

pub returns-in-Some-Variable : goal.returns-in-Some-Variable
returns-in-Some-Variable c =
    let h = c.in-Some-Variable.ensures.lookup in
    let globals = c.args.globals.now in
    sym (ap (λ o. stack_at (standing_of o)) (slice_get_read globals (length globals) c.args.number c.in-Some-Variable.field-0.now refl h.3.0 h.1 ∙ ap Some c.in-Some-Variable.field-0-is))

pub returns-in-Some-EntryPoint : goal.returns-in-Some-EntryPoint
returns-in-Some-EntryPoint c =
    let h = c.in-Some-EntryPoint.ensures.lookup in
    let globals = c.args.globals.now in
    sym (ap (λ o. stack_at (standing_of o)) (slice_get_read globals (length globals) c.args.number c.in-Some-EntryPoint.field-0.now refl h.3.0 h.1 ∙ ap Some c.in-Some-EntryPoint.field-0-is))

pub returns-in-Some-ControlledVariable : goal.returns-in-Some-ControlledVariable
returns-in-Some-ControlledVariable c =
    let h = c.in-Some-ControlledVariable.ensures.lookup in
    let globals = c.args.globals.now in
    sym (ap (λ o. stack_at (standing_of o)) (slice_get_read globals (length globals) c.args.number c.in-Some-ControlledVariable.field-0.now refl h.3.0 h.1 ∙ ap Some c.in-Some-ControlledVariable.field-0-is))

pub returns-in-None : goal.returns-in-None
returns-in-None c = sym (ap (λ o. stack_at (standing_of o)) (slice_get_past c.args.globals.now c.args.number c.in-None.ensures.lookup.3))
