use Rattle.std.specs.Prelude.{slice_get}
use Rattle.pli_value.specs.Value.{value_view}
use Rattle.pli_program.specs.declared.instruction.Instruction.TheVariants as op
use Rattle.pli_code.specs.views.CodeView.{code_view}
use Rattle.pli_machine_activations.proofs.FoundInTables.{does_found, does_none, found, none_found}
use Rattle.pli_machine_perform.proofs.instructions.constant.Goals as goal

pub returns-in-Some : goal.returns-in-Some
returns-in-Some c =
    let x = c.in-Some.value.now in
    let h = c.in-Some.ensures.lookup in
    does_found op.Constant (slice_get (code_view c.args.code.now).values c.args.value) (value_view x) c.args.machine.now c.put_constant.new.machine c.put_constant.result
    (found value_view c.args.code.now.values.items c.deref.result.now c.deref.ensures.value c.args.value x h.3.0 h.1) c.put_constant.ensures

pub returns-in-None : goal.returns-in-None
returns-in-None c =
    does_none op.Constant (slice_get (code_view c.args.code.now).values c.args.value) c.args.machine.now
    (none_found value_view c.args.code.now.values.items c.deref.result.now c.deref.ensures.value c.args.value c.in-None.ensures.lookup.3)
