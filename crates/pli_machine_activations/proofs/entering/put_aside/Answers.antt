use Rattle.std.proofs.Common.{false, List, map, ap, ◌∙◌}
use Rattle.std.specs.Prelude.{option_map}
use Rattle.pli_value.specs.Value.{value_view}
use Rattle.pli_world.specs.Activations as pli
use Rattle.pli_store.specs.declared.place.Place.{Place}
use Rattle.pli_store.specs.views.StorageView.{place_view}
use Rattle.pli_machine_step.specs.Machine.{Frame}
use Rattle.pli_machine_operate.specs.declared.operand.Operand.{Operand}
use Rattle.pli_machine_operate.specs.views.OperandView.{stack}
use Rattle.pli_machine_activations.specs.declared.room.Room.{Room}
use Rattle.pli_machine_activations.specs.views.ActivationView.{on_units_view}
use Rattle.pli_machine_activations.proofs.entering.put_aside.Goals as goal

pub returns-clause-frame : goal.returns-clause-frame
returns-clause-frame c =
    let made : List Operand → Room → Frame = λ ops room. record {
      unit = c.args.unit;
      next = c.args.block.now.entry;
      operands = stack ops;
      locals = record { temporaries = map (option_map value_view) room.temporaries.items; jumps = 0; stamp = 0 };
      again = false;
    } in
    ap (λ v. made v.items c.replace-3.new.dest.value) c.replace-2.ensures.after
    ∙ ap (λ b. made c.args.lists.operands.items b.value) c.replace-3.ensures.after

pub returns-clause-activation : goal.returns-clause-activation
returns-clause-activation c =
    let made : List Place → Room → pli.OnUnits → List _ → pli.Activation = λ slots room units pending. record {
      unit = c.args.unit;
      block = c.args.number;
      statement = c.args.block.now.statement;
      link = c.args.link;
      slots = map place_view slots;
      pending = pending;
      owned = room.owned.items;
      on_units = units;
    } in
    ap (λ v. made v.items c.replace-3.new.dest.value (on_units_view c.no_on_units-here.result) c.replace-3.new.dest.value.pending.items) c.replace.ensures.after
    ∙ ap (λ b. made c.args.lists.slots.items b.value (on_units_view c.no_on_units-here.result) b.value.pending.items) c.replace-3.ensures.after
    ∙ ap (λ u. made c.args.lists.slots.items c.args.lists.room.value u c.args.lists.room.value.pending.items) c.no_on_units-here.ensures
    ∙ ap (made c.args.lists.slots.items c.args.lists.room.value pli.no_on_unit) c.requires

pub returns-clause-waits : goal.returns-clause-waits
returns-clause-waits c =
    let here = c.args.here.now in
    let made : List Operand → Room → Frame = λ ops room. record {
      unit = here.unit;
      next = here.next;
      operands = stack ops;
      locals = record { temporaries = map (option_map value_view) room.temporaries.items; jumps = here.jumps; stamp = here.stamp };
      again = c.args.again;
    } in
    ap (λ v. made v.items c.replace-3.result.value) c.replace-2.ensures.value
    ∙ ap (λ b. made here.operands.items b.value) c.replace-3.ensures.value

pub returns-clause-kept : goal.returns-clause-kept
returns-clause-kept c =
    let here = c.args.here.now in
    let made : List Place → Room → pli.Activation = λ slots room. record {
      unit = here.unit;
      block = here.block;
      statement = here.statement;
      link = here.link;
      slots = map place_view slots;
      pending = room.pending.items;
      owned = room.owned.items;
      on_units = on_units_view here.on_units;
    } in
    ap (λ v. made v.items c.replace-3.result.value) c.replace.ensures.value
    ∙ ap (λ b. made here.slots.items b.value) c.replace-3.ensures.value
