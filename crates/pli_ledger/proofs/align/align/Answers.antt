use Rattle.std.proofs.Common.{◌≡◌, ap, arith, subst, sym, List, ◌∙◌}
use Rattle.std.proofs.lemmas.Result.{IfOk-weaker}
use Rattle.std.specs.List.Sorted.{IsStrictlySortedBy}
use Rattle.std.specs.Map.{keys_of}
use Rattle.pli_base.specs.Name.{Name}
use Rattle.pli_members.specs.Members.{Member, name_order}
use Rattle.pli_meaning.specs.Scratch.{sources}
use Rattle.pli_ledger.specs.answers.Aligning.{aligned}
use Rattle.pli_ledger.proofs.AlreadyAligned.{already_aligned}
use Rattle.pli_ledger.proofs.KeptMoved.{moved_more}
use Rattle.pli_ledger.proofs.align.align.Goals as goal

pub loop-entry-preserved : goal.loop-entry-preserved
loop-entry-preserved c =
    let entries = c.entries-entry-items.result.now in
    let sorted = subst (λ (es : List (Name × Member)). IsStrictlySortedBy name_order (keys_of es)) (sym c.entries-entry-items.ensures.entries) c.entries-entry-items.ensures.kept.ordered in
    record {
      moved = moved_more c.loop-entry.kept.items c.move_kept.new.to.items c.loop-entry.units c.move_kept.new.from _ entries c.loop-entry.entry-index c.entry-item.result sorted c.loop-entry-test.true c.entry-item.is c.loop-entry.invariant.moved
          c.move_kept.ensures.moved c.move_kept.ensures.others;
      few = omega (arith, c.loop-entry.invariant.few, c.move_kept.ensures.few);
      room = omega (arith, c.loop-entry.invariant.room, c.move_kept.ensures.room);
    }

pub returns-then-are_sources-clause-aligned : goal.returns-then-are_sources-clause-aligned
returns-then-are_sources-clause-aligned c =
    let s = c.args.members.now in
    let same = c.are_sources.ensures c.if-are_sources.true ∙ ap sources c.entries.ensures.entries in
    let units = c.args.units.now in
    IfOk-weaker c.all_of.result (λ all. all.items ≡ units) (λ kept. kept.items ≡ aligned units (sources s.entries))
    (λ all is. is ∙ already_aligned units s.entries c.entries.ensures.kept.ordered same) c.all_of.ensures.all
