use Rattle.std.proofs.Common.{None, Some, refl, sym, ap, ◌∙◌}
use Rattle.std.proofs.lemmas.Result.{IfOk-weaker}
use Rattle.pli_machine_step.specs.Machine.{resume}
use Rattle.pli_machine_step.specs.Runs.{main_block}
use Rattle.pli_world.specs.Ends.{MachineFault}
use Rattle.pli_code.specs.CodeTables.{block_looked_up}
use Rattle.pli_code.specs.views.CodeView.{code_view, block_view}
use Rattle.pli_machine_activations.specs.answers.Making.{first_world}
use Rattle.pli_machine_activations.specs.views.MachineView.{shown}
use Rattle.pli_machine_activations.proofs.BeginningLemmas.{begins_as, not_main}
use Rattle.pli_machine_activations.proofs.EnteredBlocks.{block_there}
use Rattle.pli_machine_activations.proofs.starting.begin_first.Goals as goal

pub begin_main-requires : goal.begin_main-requires
begin_main-requires c = sym (c.is_main.ensures (code_view c.args.unit.now.deck.code)) ∙ c.if-is_main.true

pub returns-then-is_main : goal.returns-then-is_main
returns-then-is_main c =
    let there = rw c.in-Some.is at c.block_at.ensures in
    IfOk-weaker c.begin_main.result _ _
    (λ beginning begins image named.
    begins_as image _ _ beginning
    (ap (λ o. resume (main_block c.args.number o (first_world c.args.storage c.args.stacks image.statics)) c.args.limit)
    (block_there (code_view c.args.unit.now.deck.code) 0 (Some (block_view c.in-Some.block.now)) there))
    (begins image named))
    c.begin_main.ensures

pub returns-in-Some : goal.returns-in-Some
returns-in-Some c = λ image named.
    let code = code_view c.args.unit.now.deck.code in
    let there = rw c.in-Some.is at c.block_at.ensures in
    record {
      end = MachineFault;
      over =
          ap (λ o. shown (resume (main_block c.args.number o (first_world c.args.storage c.args.stacks image.statics)) c.args.limit))
          (block_there code 0 (Some (block_view c.in-Some.block.now)) there)
          ∙ not_main c.args.number (block_looked_up code (block_view c.in-Some.block.now)) c.args.storage c.args.stacks image.statics
          c.args.limit (sym (c.is_main.ensures code) ∙ c.if-is_main.false);
      is = refl;
    }

pub returns : goal.returns
returns c = λ image named.
    let there = rw c.in-None.is at c.block_at.ensures in
    record {
      end = MachineFault;
      over =
          ap (λ o. shown (resume (main_block c.args.number o (first_world c.args.storage c.args.stacks image.statics)) c.args.limit))
          (block_there (code_view c.args.unit.now.deck.code) 0 None there);
      is = refl;
    }
