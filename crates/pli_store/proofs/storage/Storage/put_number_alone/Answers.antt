use Rattle.std.proofs.Common.{[], ◌∷◌, map, refl, sym, ◌∙◌, subst, SFits, w64, rules}
use Rattle.std.proofs.lemmas.Int.{to_z-of_z}
use Rattle.pli_map.specs.Description.{FixedBinary}
use Rattle.pli_value.specs.Value.{Number}
use Rattle.pli_store.specs.answers.Found.{PartStands}
use Rattle.pli_store.specs.declared.part.GenerationPart.{GenerationPart}
use Rattle.pli_store.specs.views.GenerationView.{generation_view}
use Rattle.pli_store.specs.views.StorageView.{place_view, storage_view}
use Rattle.pli_store.proofs.LoneLemmas.{holds_new, stored_in}
use Rattle.pli_store.proofs.PartAnswers.{kept_put}
use Rattle.pli_store.proofs.storage.Storage.put_number_alone.Goals as goal

pub put_alone-requires-clause-stands : goal.put_alone-requires-clause-stands
put_alone-requires-clause-stands c =
    let part : GenerationPart = record { at = c.args.lone.at; offset = 0 } in
    subst (PartStands (storage_view c.args.self.now) part) c.requires.precision c.requires.leads.there

pub put_alone-requires-clause-few : goal.put_alone-requires-clause-few
put_alone-requires-clause-few c = (c.if-not-holds_number.ensures.0 refl).0

pub put_alone-requires-clause-held : goal.put_alone-requires-clause-held
put_alone-requires-clause-held c = (c.if-not-holds_number.ensures.0 refl).1

pub invariant_of-self : goal.invariant_of-self
invariant_of-self c =
    let fits : SFits w64 c.args.number = search rules in
    let whole = to_z-of_z w64 c.args.number fits in
    let part : GenerationPart = record { at = c.args.lone.at; offset = 0 } in
    let kept = kept_put (storage_view c.args.self.now) (map generation_view c.put_alone.new.generations.items) part
    c.args.self.now.made c.args.self.now.rising (FixedBinary c.args.lone.precision) (Number c.args.number ∷ []) (rw whole at c.put_alone.ensures) in
    record { counted = c.args.self.now.counted ∙ sym kept.counted; limited = c.args.self.now.limited; rising = kept.rising }

pub returns-clause-put : goal.returns-clause-put
returns-clause-put c =
    let fits : SFits w64 c.args.number = search rules in
    let whole = to_z-of_z w64 c.args.number fits in
    let part : GenerationPart = record { at = c.args.lone.at; offset = 0 } in
    stored_in c.args.self.now (map generation_view c.put_alone.new.generations.items) c.args.self.now.made (place_view c.args.place) part
    (FixedBinary c.args.lone.precision) c.requires.precision c.requires.leads (Number c.args.number) (rw whole at c.put_alone.ensures) refl
    (rw whole at (c.if-not-holds_number.ensures.0 refl)).1

pub returns-clause-held : goal.returns-clause-held
returns-clause-held c =
    let fits : SFits w64 c.args.number = search rules in
    let whole = to_z-of_z w64 c.args.number fits in
    let part : GenerationPart = record { at = c.args.lone.at; offset = 0 } in
    holds_new c.args.self.now (map generation_view c.put_alone.new.generations.items) c.args.self.now.made (place_view c.args.place) part
    (FixedBinary c.args.lone.precision) c.requires.precision c.requires.leads (Number c.args.number) (rw whole at c.put_alone.ensures) refl

pub returns-clause-fits : goal.returns-clause-fits
returns-clause-fits c =
    let fits : SFits w64 c.args.number = search rules in
    let whole = to_z-of_z w64 c.args.number fits in
    (λ e. rw whole at (c.if-not-holds_number.ensures.0 refl), λ h. refl)

pub returns-then-not-holds_number-clause-fits : goal.returns-then-not-holds_number-clause-fits
returns-then-not-holds_number-clause-fits c =
    let fits : SFits w64 c.args.number = search rules in
    let whole = to_z-of_z w64 c.args.number fits in
    rw whole at c.if-not-holds_number.ensures
