use Rattle.std.proofs.Common.{ap, ◌∙◌}
use Rattle.pli_declare_scopes.specs.Repeats.{verdicts_of}
use Rattle.pli_declare_scopes.specs.answers.Judged.{declared_with}
use Rattle.pli_declare_tables.specs.views.TableView.{entries_view}
use Rattle.pli_declare_tables.proofs.JudgedEntries.{all_written, looked_up, owner_before, entry_more}
use Rattle.pli_declare_tables.proofs.table.declare_names.Goals as goal

pub declare-requires : goal.declare-requires
declare-requires c =
    let l = c.loop-entry in
    owner_before c.args.entries.now c.requires.after l.entry-index c.entry-item.result c.loop-entry-test.true c.entry-item.is l.verdicts.items l.block l.invariant.verdicts l.invariant.block

pub loop-entry-preserved : goal.loop-entry-preserved
loop-entry-preserved c =
    let l = c.loop-entry in
    let next = entry_more c.args.entries.now c.requires.after l.entry-index c.entry-item.result c.loop-entry-test.true c.entry-item.is l.verdicts.items l.block l.invariant.verdicts l.invariant.block
    c.in_ok-verdict.verdict c.declare.new.self c.push.new.self.items c.in_ok-verdict.ensures.judged c.in_ok-verdict.ensures.ok c.in_ok-push.ensures.items in
    record { verdicts = next.0; block = next.1 }

pub returns-clause-verdicts : goal.returns-clause-verdicts
returns-clause-verdicts c =
    let l = c.loop-entry in
    l.invariant.verdicts ∙ ap verdicts_of (all_written c.args.entries.now l.entry-index c.loop-entry-test.false)

pub returns-clause-block : goal.returns-clause-block
returns-clause-block c =
    let l = c.loop-entry in
    l.invariant.block ∙ ap (λ ws. declared_with ws l.verdicts.items) (all_written c.args.entries.now l.entry-index c.loop-entry-test.false)
    ∙ looked_up (entries_view c.args.entries.now) l.verdicts.items
