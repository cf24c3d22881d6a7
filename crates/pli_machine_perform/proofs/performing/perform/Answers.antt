use Rattle.std.proofs.Common.{Some, refl, ap, sym, ◌∙◌, rules, w32, SFits}
use Rattle.std.proofs.lemmas.Int.{to_z-of_z}
use Rattle.std.proofs.lemmas.Result.{IfOk-weaker}
use Rattle.pli_code.specs.Modules.{unit_of}
use Rattle.pli_program.specs.declared.instruction.Instruction.TheVariants as op
use Rattle.pli_code.specs.views.CodeView.{member_view}
use Rattle.pli_machine_activations.specs.answers.Served.{is_served}
use Rattle.pli_machine_activations.specs.views.ImageView.{image_of}
use Rattle.pli_machine_activations.specs.declared.machine.Stop.TheVariants as stop
use Rattle.pli_machine_perform.proofs.InstructionsDo.{performs_as, one_performs, does_performs, moves_performs, same_performs}
use Rattle.pli_machine_perform.proofs.performing.perform.Goals as goal

pub returns-in-Step : goal.returns-in-Step
returns-in-Step c =
    one_performs (image_of c.args.unit.now.loaded.now) (member_view c.args.unit.now.linked.now) c.args.instruction (op.Step c.in-Step.statement) c.args.machine.now c.step.new.machine (c.step.result) c.in-Step.is c.step.ensures

pub returns-in-Line : goal.returns-in-Line
returns-in-Line c =
    one_performs (image_of c.args.unit.now.loaded.now) (member_view c.args.unit.now.linked.now) c.args.instruction (op.Line c.in-Line.statement) c.args.machine.now c.line.new.machine c.line.result c.in-Line.is c.line.ensures

pub returns-in-Jump : goal.returns-in-Jump
returns-in-Jump c =
    one_performs (image_of c.args.unit.now.loaded.now) (member_view c.args.unit.now.linked.now) c.args.instruction (op.Jump c.in-Jump.target) c.args.machine.now c.jump.new.machine (c.jump.result) c.in-Jump.is c.jump.ensures

pub returns-in-JumpUnless : goal.returns-in-JumpUnless
returns-in-JumpUnless c =
    one_performs (image_of c.args.unit.now.loaded.now) (member_view c.args.unit.now.linked.now) c.args.instruction (op.JumpUnless c.in-JumpUnless.target) c.args.machine.now c.jump_unless.new.machine (c.jump_unless.result) c.in-JumpUnless.is c.jump_unless.ensures

pub returns-in-Goto : goal.returns-in-Goto
returns-in-Goto c =
    one_performs (image_of c.args.unit.now.loaded.now) (member_view c.args.unit.now.linked.now) c.args.instruction (op.Goto c.in-Goto.outward c.in-Goto.target) c.args.machine.now c.go_to.new.machine (c.go_to.result) c.in-Goto.is c.go_to.ensures

pub returns-in-Call : goal.returns-in-Call
returns-in-Call c =
    moves_performs (image_of c.args.unit.now.loaded.now) (member_view c.args.unit.now.linked.now) c.args.instruction (op.Call c.in-Call.block c.in-Call.arguments) c.args.machine.now c.call.new.machine c.call.result c.in-Call.is c.call.ensures

pub returns-in-Begin : goal.returns-in-Begin
returns-in-Begin c =
    moves_performs (image_of c.args.unit.now.loaded.now) (member_view c.args.unit.now.linked.now) c.args.instruction (op.Begin c.in-Begin.block) c.args.machine.now c.enter_begin.new.machine c.enter_begin.result c.in-Begin.is c.enter_begin.ensures

pub returns-in-Return : goal.returns-in-Return
returns-in-Return c =
    one_performs (image_of c.args.unit.now.loaded.now) (member_view c.args.unit.now.linked.now) c.args.instruction (op.Return c.in-Return.outward) c.args.machine.now c.return_from.new.machine (c.return_from.result) c.in-Return.is c.return_from.ensures

pub returns-in-ReturnValue : goal.returns-in-ReturnValue
returns-in-ReturnValue c =
    does_performs (image_of c.args.unit.now.loaded.now) (member_view c.args.unit.now.linked.now) c.args.instruction (op.ReturnValue c.in-ReturnValue.outward) c.args.machine.now c.return_value.new.machine c.return_value.result c.in-ReturnValue.is c.return_value.ensures

pub returns-in-Raise : goal.returns-in-Raise
returns-in-Raise c =
    one_performs (image_of c.args.unit.now.loaded.now) (member_view c.args.unit.now.linked.now) c.args.instruction (op.Raise c.in-Raise.error) c.args.machine.now c.args.machine.now (Some (stop.Raised c.in-Raise.error)) c.in-Raise.is (λ u image put. refl)

pub returns-in-Stop : goal.returns-in-Stop
returns-in-Stop c =
    one_performs (image_of c.args.unit.now.loaded.now) (member_view c.args.unit.now.linked.now) c.args.instruction op.Stop c.args.machine.now c.args.machine.now (Some stop.Ended) c.in-Stop.is (λ u image put. refl)

pub returns-in-Local : goal.returns-in-Local
returns-in-Local c =
    does_performs (image_of c.args.unit.now.loaded.now) (member_view c.args.unit.now.linked.now) c.args.instruction (op.Local c.in-Local.outward c.in-Local.slot) c.args.machine.now c.local.new.machine c.local.result c.in-Local.is c.local.ensures

pub returns-in-Global : goal.returns-in-Global
returns-in-Global c =
    same_performs (image_of c.args.unit.now.loaded.now) (member_view c.args.unit.now.linked.now) c.args.instruction (op.Global c.in-Global.number) c.args.machine.now c.global.new.machine c.global.result c.in-Global.is
    (IfOk-weaker c.global.result _ _ (λ s moves. moves (unit_of (member_view c.args.unit.now.linked.now))) c.global.ensures)

pub returns-in-CallExternal : goal.returns-in-CallExternal
returns-in-CallExternal c =
    same_performs (image_of c.args.unit.now.loaded.now) (member_view c.args.unit.now.linked.now) c.args.instruction (op.CallExternal c.in-CallExternal.global c.in-CallExternal.arguments) c.args.machine.now c.call_entry.new.machine c.call_entry.result c.in-CallExternal.is
    c.call_entry.ensures

pub returns-in-Field : goal.returns-in-Field
returns-in-Field c =
    does_performs (image_of c.args.unit.now.loaded.now) (member_view c.args.unit.now.linked.now) c.args.instruction (op.Field c.in-Field.offset c.in-Field.description) c.args.machine.now c.field.new.machine c.field.result c.in-Field.is c.field.ensures

pub returns-in-Subscript : goal.returns-in-Subscript
returns-in-Subscript c =
    let low : SFits w32 c.in-Subscript.low = search rules in
    let high : SFits w32 c.in-Subscript.high = search rules in
    does_performs (image_of c.args.unit.now.loaded.now) (member_view c.args.unit.now.linked.now) c.args.instruction (op.Subscript c.in-Subscript.low c.in-Subscript.high c.in-Subscript.multiplier) c.args.machine.now c.subscript.new.machine c.subscript.result c.in-Subscript.is (rw (to_z-of_z w32 c.in-Subscript.low low, to_z-of_z w32 c.in-Subscript.high high) at c.subscript.ensures)

pub returns-in-Constant : goal.returns-in-Constant
returns-in-Constant c =
    does_performs (image_of c.args.unit.now.loaded.now) (member_view c.args.unit.now.linked.now) c.args.instruction (op.Constant c.in-Constant.value) c.args.machine.now c.constant.new.machine c.constant.result c.in-Constant.is c.constant.ensures

pub returns-in-Load : goal.returns-in-Load
returns-in-Load c =
    does_performs (image_of c.args.unit.now.loaded.now) (member_view c.args.unit.now.linked.now) c.args.instruction op.Load c.args.machine.now c.load.new.machine c.load.result c.in-Load.is c.load.ensures

pub returns-in-Store : goal.returns-in-Store
returns-in-Store c =
    does_performs (image_of c.args.unit.now.loaded.now) (member_view c.args.unit.now.linked.now) c.args.instruction op.Store c.args.machine.now c.store.new.machine c.store.result c.in-Store.is c.store.ensures

pub returns-in-Copy : goal.returns-in-Copy
returns-in-Copy c =
    does_performs (image_of c.args.unit.now.loaded.now) (member_view c.args.unit.now.linked.now) c.args.instruction op.Copy c.args.machine.now c.copy.new.machine c.copy.result c.in-Copy.is c.copy.ensures

pub returns-in-MakeDummy : goal.returns-in-MakeDummy
returns-in-MakeDummy c =
    does_performs (image_of c.args.unit.now.loaded.now) (member_view c.args.unit.now.linked.now) c.args.instruction (op.MakeDummy c.in-MakeDummy.template) c.args.machine.now c.make_dummy.new.machine c.make_dummy.result c.in-MakeDummy.is c.make_dummy.ensures

pub returns-in-Fit : goal.returns-in-Fit
returns-in-Fit c =
    same_performs (image_of c.args.unit.now.loaded.now) (member_view c.args.unit.now.linked.now) c.args.instruction (op.Fit c.in-Fit.description) c.args.machine.now c.fit.new.machine c.fit.result c.in-Fit.is
    (IfOk-weaker c.fit.result _ _ (λ s moves. moves (unit_of (member_view c.args.unit.now.linked.now))) c.fit.ensures)

pub returns-in-Operate : goal.returns-in-Operate
returns-in-Operate c =
    same_performs (image_of c.args.unit.now.loaded.now) (member_view c.args.unit.now.linked.now) c.args.instruction (op.Operate c.in-Operate.operation) c.args.machine.now c.calculate.new.machine c.calculate.result c.in-Operate.is
    (IfOk-weaker c.calculate.result _ _ (λ s moves. moves (unit_of (member_view c.args.unit.now.linked.now))) c.calculate.ensures)

pub returns-in-Put : goal.returns-in-Put
returns-in-Put c =
    does_performs (image_of c.args.unit.now.loaded.now) (member_view c.args.unit.now.linked.now) c.args.instruction op.Put c.args.machine.now c.put.new.machine c.put.result c.in-Put.is c.put.ensures

pub returns-in-Skip : goal.returns-in-Skip
returns-in-Skip c =
    does_performs (image_of c.args.unit.now.loaded.now) (member_view c.args.unit.now.linked.now) c.args.instruction op.Skip c.args.machine.now c.skip.new.machine c.skip.result c.in-Skip.is c.skip.ensures

pub returns-in-SetTemporary : goal.returns-in-SetTemporary
returns-in-SetTemporary c =
    does_performs (image_of c.args.unit.now.loaded.now) (member_view c.args.unit.now.linked.now) c.args.instruction (op.SetTemporary c.in-SetTemporary.number) c.args.machine.now c.set_temporary.new.machine c.set_temporary.result c.in-SetTemporary.is c.set_temporary.ensures

pub returns-in-TakeTemporary : goal.returns-in-TakeTemporary
returns-in-TakeTemporary c =
    does_performs (image_of c.args.unit.now.loaded.now) (member_view c.args.unit.now.linked.now) c.args.instruction (op.TakeTemporary c.in-TakeTemporary.number) c.args.machine.now c.take_temporary.new.machine c.take_temporary.result c.in-TakeTemporary.is c.take_temporary.ensures

pub returns-in-AllocateControlled : goal.returns-in-AllocateControlled
returns-in-AllocateControlled c =
    same_performs (image_of c.args.unit.now.loaded.now) (member_view c.args.unit.now.linked.now) c.args.instruction (op.AllocateControlled c.in-AllocateControlled.global) c.args.machine.now c.allocate_controlled.new.machine c.allocate_controlled.result c.in-AllocateControlled.is
    (IfOk-weaker c.allocate_controlled.result _ _ (λ s moves. moves (unit_of (member_view c.args.unit.now.linked.now))) c.allocate_controlled.ensures)

pub returns-in-FreeControlled : goal.returns-in-FreeControlled
returns-in-FreeControlled c =
    same_performs (image_of c.args.unit.now.loaded.now) (member_view c.args.unit.now.linked.now) c.args.instruction (op.FreeControlled c.in-FreeControlled.global) c.args.machine.now c.free_controlled.new.machine c.free_controlled.result c.in-FreeControlled.is
    (IfOk-weaker c.free_controlled.result _ _ (λ s moves. moves (unit_of (member_view c.args.unit.now.linked.now))) c.free_controlled.ensures)

pub returns-in-CountGenerations : goal.returns-in-CountGenerations
returns-in-CountGenerations c =
    same_performs (image_of c.args.unit.now.loaded.now) (member_view c.args.unit.now.linked.now) c.args.instruction (op.CountGenerations c.in-CountGenerations.global) c.args.machine.now c.count_generations.new.machine c.count_generations.result c.in-CountGenerations.is
    (IfOk-weaker c.count_generations.result _ _ (λ s moves. moves (unit_of (member_view c.args.unit.now.linked.now))) c.count_generations.ensures)

pub returns-in-Based : goal.returns-in-Based
returns-in-Based c =
    does_performs (image_of c.args.unit.now.loaded.now) (member_view c.args.unit.now.linked.now) c.args.instruction (op.Based c.in-Based.description) c.args.machine.now c.based.new.machine c.based.result c.in-Based.is c.based.ensures

pub returns-in-AddressOf : goal.returns-in-AddressOf
returns-in-AddressOf c =
    does_performs (image_of c.args.unit.now.loaded.now) (member_view c.args.unit.now.linked.now) c.args.instruction op.AddressOf c.args.machine.now c.address_of.new.machine c.address_of.result c.in-AddressOf.is c.address_of.ensures

pub returns-in-AllocateBased : goal.returns-in-AllocateBased
returns-in-AllocateBased c =
    does_performs (image_of c.args.unit.now.loaded.now) (member_view c.args.unit.now.linked.now) c.args.instruction (op.AllocateBased c.in-AllocateBased.template) c.args.machine.now c.allocate_based.new.machine c.allocate_based.result c.in-AllocateBased.is c.allocate_based.ensures

pub returns-in-FreeBased : goal.returns-in-FreeBased
returns-in-FreeBased c =
    does_performs (image_of c.args.unit.now.loaded.now) (member_view c.args.unit.now.linked.now) c.args.instruction (op.FreeBased c.in-FreeBased.description) c.args.machine.now c.free_based.new.machine c.free_based.result c.in-FreeBased.is c.free_based.ensures

pub returns-in-ToPointer : goal.returns-in-ToPointer
returns-in-ToPointer c =
    does_performs (image_of c.args.unit.now.loaded.now) (member_view c.args.unit.now.linked.now) c.args.instruction op.ToPointer c.args.machine.now c.to_pointer.new.machine c.to_pointer.result c.in-ToPointer.is c.to_pointer.ensures

pub returns-in-ToOffset : goal.returns-in-ToOffset
returns-in-ToOffset c =
    does_performs (image_of c.args.unit.now.loaded.now) (member_view c.args.unit.now.linked.now) c.args.instruction op.ToOffset c.args.machine.now c.to_offset.new.machine c.to_offset.result c.in-ToOffset.is c.to_offset.ensures

pub returns-in-AllocateInArea : goal.returns-in-AllocateInArea
returns-in-AllocateInArea c =
    same_performs (image_of c.args.unit.now.loaded.now) (member_view c.args.unit.now.linked.now) c.args.instruction (op.AllocateInArea c.in-AllocateInArea.template c.in-AllocateInArea.target) c.args.machine.now c.allocate_in_area.new.machine c.allocate_in_area.result c.in-AllocateInArea.is
    (IfOk-weaker c.allocate_in_area.result _ _ (λ s moves. moves (unit_of (member_view c.args.unit.now.linked.now))) c.allocate_in_area.ensures)

pub returns-in-AssignArea : goal.returns-in-AssignArea
returns-in-AssignArea c =
    same_performs (image_of c.args.unit.now.loaded.now) (member_view c.args.unit.now.linked.now) c.args.instruction op.AssignArea c.args.machine.now c.assign_area.new.machine c.assign_area.result c.in-AssignArea.is
    (IfOk-weaker c.assign_area.result _ _ (λ s moves. moves (unit_of (member_view c.args.unit.now.linked.now))) c.assign_area.ensures)

pub returns-in-EmptyArea : goal.returns-in-EmptyArea
returns-in-EmptyArea c =
    does_performs (image_of c.args.unit.now.loaded.now) (member_view c.args.unit.now.linked.now) c.args.instruction op.EmptyArea c.args.machine.now c.empty_area.new.machine c.empty_area.result c.in-EmptyArea.is c.empty_area.ensures

pub returns-in-On : goal.returns-in-On
returns-in-On c =
    performs_as (image_of c.args.unit.now.loaded.now) (member_view c.args.unit.now.linked.now) c.args.instruction (op.On c.in-On.condition c.in-On.block) c.args.machine.now c.establish.new.machine c.establish.result c.in-On.is c.establish.ensures

pub returns-in-Revert : goal.returns-in-Revert
returns-in-Revert c =
    one_performs (image_of c.args.unit.now.loaded.now) (member_view c.args.unit.now.linked.now) c.args.instruction (op.Revert c.in-Revert.condition) c.args.machine.now c.revert.new.machine c.revert.result c.in-Revert.is c.revert.ensures

pub returns-in-Signal : goal.returns-in-Signal
returns-in-Signal c =
    same_performs (image_of c.args.unit.now.loaded.now) (member_view c.args.unit.now.linked.now) c.args.instruction (op.Signal c.in-Signal.condition) c.args.machine.now c.signal.new.machine c.signal.result c.in-Signal.is
    (IfOk-weaker c.signal.result _ _ (λ s moves. moves (unit_of (member_view c.args.unit.now.linked.now))) c.signal.ensures)

pub returns-in-SubscriptIn : goal.returns-in-SubscriptIn
returns-in-SubscriptIn c =
    does_performs (image_of c.args.unit.now.loaded.now) (member_view c.args.unit.now.linked.now) c.args.instruction (op.SubscriptIn c.in-SubscriptIn.dimension) c.args.machine.now c.subscript_in.new.machine c.subscript_in.result c.in-SubscriptIn.is c.subscript_in.ensures

pub returns-in-BoundOf : goal.returns-in-BoundOf
returns-in-BoundOf c =
    does_performs (image_of c.args.unit.now.loaded.now) (member_view c.args.unit.now.linked.now) c.args.instruction (op.BoundOf c.in-BoundOf.which c.in-BoundOf.dimension) c.args.machine.now c.bound_of.new.machine c.bound_of.result c.in-BoundOf.is c.bound_of.ensures

pub make_string_dummy-requires : goal.make_string_dummy-requires
make_string_dummy-requires c = ap (is_served c.args.unit.now.loaded.now.strings.now) (sym c.in-MakeStringDummy.is) ∙ c.requires.served

pub returns-in-MakeStringDummy : goal.returns-in-MakeStringDummy
returns-in-MakeStringDummy c =
    does_performs (image_of c.args.unit.now.loaded.now) (member_view c.args.unit.now.linked.now) c.args.instruction (op.MakeStringDummy c.in-MakeStringDummy.form) c.args.machine.now c.make_string_dummy.new.machine c.make_string_dummy.result c.in-MakeStringDummy.is c.make_string_dummy.ensures

pub returns-in-FitToPlace : goal.returns-in-FitToPlace
returns-in-FitToPlace c =
    same_performs (image_of c.args.unit.now.loaded.now) (member_view c.args.unit.now.linked.now) c.args.instruction op.FitToPlace c.args.machine.now c.fit_to_place.new.machine c.fit_to_place.result c.in-FitToPlace.is
    (IfOk-weaker c.fit_to_place.result _ _ (λ s moves. moves (unit_of (member_view c.args.unit.now.linked.now))) c.fit_to_place.ensures)
