use Rattle.std.proofs.Common.{length, ap, ◌∙◌, arith}
use Rattle.pli_declare_tables.specs.views.TableView.{entries_view}
use Rattle.pli_declare_variables.specs.answers.Walks.{above_at}
use Rattle.pli_declare_variables.proofs.NumberLemmas.{mapped_more, mapped_length}
use Rattle.pli_declare.proofs.OwnerLemmas.{weaker}
use Rattle.pli_declare_variables.proofs.LevelLemmas.{owner_before, above_more}
use Rattle.pli_declare_variables.proofs.places.aboves.Goals as goal

pub above-above-requires-clause-before : goal.above-above-requires-clause-before
above-above-requires-clause-before c =
    let i = c.loop-entry.entry-index in
    let long = ap (λ (xs : _). length xs) (c.deref.ensures.value ∙ c.loop-entry.invariant) ∙ mapped_length (above_at (entries_view c.args.entries.now)) i in
    weaker c.entry-item.result.owner i (length c.deref.result.now) (omega (arith, long))
    (owner_before c.args.entries.now c.requires i c.entry-item.result c.loop-entry-test.true c.entry-item.is)

pub above-above-requires-clause-within : goal.above-above-requires-clause-within
above-above-requires-clause-within c =
    let i = c.loop-entry.entry-index in
    let long = ap (λ (xs : _). length xs) (c.deref.ensures.value ∙ c.loop-entry.invariant) ∙ mapped_length (above_at (entries_view c.args.entries.now)) i in
    omega (arith, long, c.loop-entry-test.true)

pub loop-entry-preserved : goal.loop-entry-preserved
loop-entry-preserved c =
    let i = c.loop-entry.entry-index in
    let entries = entries_view c.args.entries.now in
    let known = c.deref.ensures.value ∙ c.loop-entry.invariant in
    let here = c.above-above.ensures ∙ above_more c.args.entries.now c.requires i c.entry-item.result c.loop-entry-test.true c.entry-item.is c.deref.result.now known in
    c.in_ok-push.ensures.items ∙ mapped_more (above_at entries) c.loop-entry.aboves.items i c.above-above.result c.loop-entry.invariant here
