use Rattle.std.proofs.Common.{◌-◌, [], map, reverse, refl, sym, ap, subst, ◌∙◌, arith}
use Rattle.std.specs.Prelude.{slice_get}
use Rattle.pli_world.specs.Activations as pli
use Rattle.pli_world.specs.Ends.{OutOfSteps}
use Rattle.pli_world.specs.World.{made_all, stepped}
use Rattle.pli_machine_step.specs.Machine.{Frame}
use Rattle.pli_machine_step.specs.Runs.{names_of}
use Rattle.pli_code.specs.CodeTables.{block_looked_up, variables_at}
use Rattle.pli_code.specs.Modules.{program_of}
use Rattle.pli_code.specs.views.CodeView.{code_view, block_view}
use Rattle.pli_machine_activations.specs.answers.Making.{EndsAs, first_world}
use Rattle.pli_machine_activations.specs.views.MachineView.{frame_view, waiting_view, frames_of, world_of, left_of, shown}
use Rattle.pli_machine_activations.specs.declared.room.Room.{Room}
use Rattle.pli_machine_activations.proofs.BeginningLemmas.{no_step, one_step, main_begun, begun_main, ends_main}
use Rattle.pli_machine_activations.proofs.EnteredBlocks.{begun_frame, enters_goes, enters_stops}
use Rattle.pli_machine_activations.proofs.StateLemmas.{goes_on}
use Rattle.pli_machine_activations.proofs.starting.begin_main.Goals as goal

pub returns-then-limit-eq0 : goal.returns-then-limit-eq0
returns-then-limit-eq0 c = λ image named. record {
  end = OutOfSteps;
  over =
      no_step c.args.number (block_looked_up (code_view c.args.unit.now.deck.code) (block_view c.args.block.now))
      c.args.storage c.args.stacks image.statics c.args.limit c.requires c.if-limit-eq0.true;
  is = refl;
}

pub returns-in-Ok : goal.returns-in-Ok
returns-in-Ok c = λ image named.
    let code = code_view c.args.unit.now.deck.code in
    let b = block_looked_up code (block_view c.args.block.now) in
    let is = begun_main image c.args.storage c.args.stacks c.activation-here.result c.new-2.result.items c.new-3.result.items c.args.number b
    c.in_ok-lists.lists.slots.items c.deref_mut.result.now.owned.items
    c.activation-here.ensures.activation c.in_ok-lists.ensures.slots (ap (λ (r : Room). r.owned.items) c.deref_mut.ensures.value ∙ c.in_ok-lists.ensures.owned) c.new-2.ensures.items
    c.new-3.ensures.items in
    let here = c.activation-here.ensures.frame
    ∙ begun_frame c.args.number b.entry b.temporaries c.in_ok-lists.lists.operands.items c.unset.new.temporaries.items c.in_ok-lists.ensures.empty.no_operand c.in_ok-unset.ensures in
    let same = c.in-Ok.ensures.same in
    let mid = main_begun image c.args.storage c.args.stacks c.activation-here.result c.new-2.result.items c.new-3.result.items in
    one_step c.args.number b c.args.storage c.args.stacks image.statics c.args.limit (c.args.limit - 1) c.requires (omega arith)
    ∙ goes_on _ _
    (enters_goes c.args.number 0 b 0 [] (stepped (first_world c.args.storage c.args.stacks image.statics)) mid is
    [] (c.args.limit - 1)
    (frame_view c.make_variables.new.machine.here) (frames_of c.make_variables.new.machine.waiting.items) (world_of image c.make_variables.new.machine []) (left_of c.make_variables.new.machine)
    (ap (λ ns. made_all (variables_at code ns) mid) (sym c.deref.ensures.value) ∙ c.in-Ok.ensures.made image [])
    (same.here ∙ here) (same.frames ∙ ap (λ xs. reverse (map waiting_view xs)) c.new-2.ensures.items) same.left)

pub returns : goal.returns
returns c = λ image named.
    let code = code_view c.args.unit.now.deck.code in
    let b = block_looked_up code (block_view c.args.block.now) in
    let is = begun_main image c.args.storage c.args.stacks c.activation-here.result c.new-2.result.items c.new-3.result.items c.args.number b
    c.in_ok-lists.lists.slots.items c.deref_mut.result.now.owned.items
    c.activation-here.ensures.activation c.in_ok-lists.ensures.slots (ap (λ (r : Room). r.owned.items) c.deref_mut.ensures.value ∙ c.in_ok-lists.ensures.owned) c.new-2.ensures.items
    c.new-3.ensures.items in
    let here = c.activation-here.ensures.frame
    ∙ begun_frame c.args.number b.entry b.temporaries c.in_ok-lists.lists.operands.items c.unset.new.temporaries.items c.in_ok-lists.ensures.empty.no_operand c.in_ok-unset.ensures in
    let last = c.make_variables.new.machine in
    let same = c.in-Err.ensures.same in
    let mid = main_begun image c.args.storage c.args.stacks c.activation-here.result c.new-2.result.items c.new-3.result.items in
    let v = world_of image last [] in
    let ends = subst (λ ns. EndsAs c.in-Err.fault (made_all (variables_at code ns) mid) v) c.deref.ensures.value (c.in-Err.ensures.made image []) in
    let begun =
    one_step c.args.number b c.args.storage c.args.stacks image.statics c.args.limit (c.args.limit - 1) c.requires (omega arith) in
    ends_main c.in-Err.fault image last c.args.unit.now.name c.args.block.now.statement c.in_ok-ending-in-Err.ending _ (frame_view last.here) []
    (λ s stops. ap shown begun ∙ enters_stops c.args.number 0 b 0 [] (stepped (first_world c.args.storage c.args.stacks image.statics)) mid is
    [] (c.args.limit - 1) c.in-Err.fault s (frame_view last.here) [] v 0 ends stops same.output same.column)
    c.in_ok-ending-in-Err.ensures
    (ap (λ (f : Frame). slice_get (names_of (program_of image.linked)) f.unit) (same.here ∙ here) ∙ named)
    (same.statement ∙ ap (λ (a : pli.Activation). a.statement) c.activation-here.ensures.activation) (same.output ∙ c.new-3.ensures.items) same.column
