use Rattle.std.proofs.Common.{[], ◌∷◌, map, refl, sym, ◌∙◌, subst}
use Rattle.pli_map.specs.Description.{Bit}
use Rattle.pli_value.specs.Value.{Bits}
use Rattle.pli_store.specs.answers.Found.{PartStands}
use Rattle.pli_store.specs.views.GenerationView.{generation_view}
use Rattle.pli_store.specs.views.StorageView.{place_view, storage_view}
use Rattle.pli_store.proofs.PartAnswers.{kept_or_same}
use Rattle.pli_store.proofs.PutAnswers.{value_is_put}
use Rattle.pli_store.proofs.storage.Storage.put_bit_in.Goals as goal

pub put_bit-requires : goal.put_bit-requires
put_bit-requires c = subst (PartStands (storage_view c.args.self.now) c.args.part) c.requires.one c.requires.leads.there

pub invariant_of-self : goal.invariant_of-self
invariant_of-self c =
    let kept = kept_or_same (storage_view c.args.self.now) (map generation_view c.put_bit.new.generations.items) c.args.part
    c.args.self.now.made c.args.self.now.rising c.put_bit.result (Bit 1) (Bits (c.args.bit ∷ []) ∷ []) c.put_bit.ensures.put in
    record { counted = c.args.self.now.counted ∙ sym kept.counted; limited = c.args.self.now.limited; rising = kept.rising }

pub returns : goal.returns
returns c = record {
  put = value_is_put c.args.self.now _ (place_view c.args.place) c.args.part (Bit 1) c.requires.one refl c.requires.leads
      c.put_bit.result (Bits (c.args.bit ∷ [])) refl c.put_bit.ensures.put;
}
