use Rattle.std.proofs.Common.{refl, ap, ◌∙◌, arith}
use Rattle.pli_value.specs.declared.locator.Locator.TheVariants.{Pointer}
use Rattle.pli_store.proofs.PlaceLemmas.{within_store}
use Rattle.pli_store.proofs.KnownLemmas.{generation_described}
use Rattle.pli_store.proofs.storage.Storage.near_outside.Goals as goal

pub index-generation-requires : goal.index-generation-requires
index-generation-requires c =
    let inside = within_store c.args.self.now.generations.items c.in-Pointer.generation c.in_ok-at.at c.in_ok-at.ensures in
    omega (arith, inside)

pub returns : goal.returns
returns c = record {
  number = c.in-Pointer.generation;
  is = c.in-Pointer.is ∙ ap (Pointer c.in-Pointer.generation) c.if-position-ne0.false;
  stands = c.in_ok-at.ensures;
  described = generation_described c.args.self.now.generations.items c.in-Pointer.generation c.in_ok-at.at c.in_ok-at.ensures c.index-generation.result.now c.index-generation.ensures
      ∙ c.if-not-have_one_mark.ensures refl;
}
