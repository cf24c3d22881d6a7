use Rattle.std.proofs.Common.{true≢false, sym, ap, ◌∙◌, arith}
use Rattle.pli_map.specs.views.DescriptionView.{description_view}
use Rattle.pli_value.specs.declared.locator.Locator.TheVariants.{Pointer}
use Rattle.pli_store.specs.views.StorageView.{storage_view}
use Rattle.pli_store.proofs.PlaceLemmas.{within_store}
use Rattle.pli_store.proofs.KnownLemmas.{generation_described, outside_at}
use Rattle.pli_store.proofs.storage.Storage.outside.Goals as goal

pub index-generation-requires : goal.index-generation-requires
index-generation-requires c =
    let inside = within_store c.args.self.now.generations.items c.in-Pointer.generation c.in_ok-at.at c.in_ok-at.ensures in
    omega (arith, inside)

pub returns-then-position-ne0 : goal.returns-then-position-ne0
returns-then-position-ne0 c = λ at o. c.if-position-ne0.true (cc (c.in-Pointer.is, o.is))

pub returns-then-are_same_marked : goal.returns-then-are_same_marked
returns-then-are_same_marked c = record {
  number = c.in-Pointer.generation;
  is = c.in-Pointer.is ∙ ap (Pointer c.in-Pointer.generation) c.if-position-ne0.false;
  stands = c.in_ok-at.ensures;
  described = generation_described c.args.self.now.generations.items c.in-Pointer.generation c.in_ok-at.at c.in_ok-at.ensures c.index-generation.result.now c.index-generation.ensures
      ∙ c.are_same_marked.ensures.0 c.if-are_same_marked.true;
}

pub returns-else-are_same_marked : goal.returns-else-are_same_marked
returns-else-are_same_marked c = λ at o.
    let items = c.args.self.now.generations.items in
    let is = c.in-Pointer.is ∙ ap (Pointer c.in-Pointer.generation) c.if-position-ne0.false in
    let described = outside_at (storage_view c.args.self.now) c.args.locator (description_view c.args.part.now.whole.now) c.in-Pointer.generation c.in_ok-at.at c.in_ok-at.ensures is (at, o) in
    let here = generation_described items c.in-Pointer.generation c.in_ok-at.at c.in_ok-at.ensures c.index-generation.result.now c.index-generation.ensures in
    true≢false (sym (c.are_same_marked.ensures.1 (sym here ∙ described)) ∙ c.if-are_same_marked.false)
