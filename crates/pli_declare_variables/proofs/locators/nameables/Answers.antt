use Rattle.std.proofs.Common.{List, length, ap, ◌∙◌, arith}
use Rattle.pli_declare_tables.specs.views.TableView.{entry_view, entries_view}
use Rattle.pli_declare.specs.Places.{item_in}
use Rattle.pli_declare_variables.specs.answers.Walks.{chain_at, chain_with, nameable_at}
use Rattle.pli_declare_variables.specs.declared.locators.Chain.{Chain}
use Rattle.pli_declare_variables.proofs.LevelLemmas.{owner_before}
use Rattle.pli_declare_variables.proofs.ItemPathLemmas.{chain_more, nameable_more}
use Rattle.pli_declare_variables.proofs.NumberLemmas.{mapped_more, mapped_length}
use Rattle.pli_declare.proofs.OwnerLemmas.{weaker}
use Rattle.pli_declare_variables.proofs.locators.nameables.Goals as goal

pub chain_above-requires : goal.chain_above-requires
chain_above-requires c =
    let i = c.loop-entry.entry-index in
    let long = ap (λ (xs : List Chain). length xs) (c.deref.ensures.value ∙ c.loop-entry.invariant.chains) ∙ mapped_length (chain_at (entries_view c.args.entries.now)) i in
    weaker c.entry-item.result.owner i (length c.deref.result.now) (omega (arith, long))
    (owner_before c.args.entries.now c.requires i c.entry-item.result c.loop-entry-test.true c.entry-item.is)

pub loop-entry-preserved : goal.loop-entry-preserved
loop-entry-preserved c =
    let i = c.loop-entry.entry-index in
    let entries = entries_view c.args.entries.now in
    let e = c.entry-item.result in
    let known = c.deref.ensures.value ∙ c.loop-entry.invariant.chains in
    let chain = c.chained-chain.ensures ∙ ap (chain_with (item_in (entry_view e).entity)) c.chain_above.ensures
    ∙ chain_more c.args.entries.now c.requires i e c.loop-entry-test.true c.entry-item.is c.deref.result.now known in
    let here = nameable_more c.args.entries.now i e c.loop-entry-test.true c.entry-item.is c.named-named.result c.chained-chain.result c.use_of.result
    c.named-named.ensures.variable c.named-named.ensures.locator c.named-named.ensures.area chain c.use_of.ensures.locator c.use_of.ensures.area in
    record {
      chains = c.in_ok-push.ensures.items ∙ mapped_more (chain_at entries) c.loop-entry.chains.items i c.chained-chain.result c.loop-entry.invariant.chains chain;
      all = c.in_ok-push-2.ensures.items ∙ mapped_more (nameable_at entries) c.loop-entry.all.items i c.use_of.result c.loop-entry.invariant.all here;
    }
