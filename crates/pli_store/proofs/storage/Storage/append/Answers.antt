use Rattle.std.proofs.Common.{map, refl, sym, ◌∙◌, subst}
use Rattle.pli_store.specs.answers.Found.{PartStands}
use Rattle.pli_store.specs.views.GenerationView.{generation_view}
use Rattle.pli_store.specs.views.StorageView.{place_view, storage_view}
use Rattle.pli_store.proofs.PartAnswers.{kept_lengthened, leads_to_none}
use Rattle.pli_store.proofs.PutAnswers.{append_refused, is_appended}
use Rattle.pli_store.proofs.storage.Storage.append.Goals as goal

pub lengthen-requires : goal.lengthen-requires
lengthen-requires c = subst (PartStands (storage_view c.args.self.now) c.in-Ok.part) c.in-Some.ensures c.in-Ok.ensures.there

pub invariant_of-self : goal.invariant_of-self
invariant_of-self c =
    let kept = kept_lengthened (storage_view c.args.self.now) (map generation_view c.lengthen.new.generations.items) c.in-Ok.part
    c.args.self.now.made c.args.self.now.rising c.lengthen.result c.in-Some.greatest c.args.more.now c.args.room c.lengthen.ensures.put in
    record { counted = c.args.self.now.counted ∙ sym kept.counted; limited = c.args.self.now.limited; rising = kept.rising }

pub returns-in-Ok-clause-put : goal.returns-in-Ok-clause-put
returns-in-Ok-clause-put c =
    is_appended c.args.self.now _ (place_view c.args.place) c.in-Ok.part c.in-Some.greatest c.in-Some.ensures refl c.in-Ok.ensures
    c.lengthen.result c.args.more.now c.args.room c.lengthen.ensures.put

pub returns-in-Ok-clause-refused : goal.returns-in-Ok-clause-refused
returns-in-Ok-clause-refused c = λ e.
    append_refused c.args.self.now (place_view c.args.place) c.in-Ok.part c.in-Some.greatest c.in-Some.ensures c.in-Ok.ensures c.args.more.now c.args.room
    (c.lengthen.ensures.refused e)

pub returns-in-Err-clause-refused : goal.returns-in-Err-clause-refused
returns-in-Err-clause-refused c = λ e greatest is part there.
    absurd (leads_to_none (storage_view c.args.self.now) (place_view c.args.place) c.in-Err._fault c.in-Err.ensures part there)
