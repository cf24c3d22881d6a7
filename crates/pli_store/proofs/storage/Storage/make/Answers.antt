use Rattle.pli_map.specs.views.DescriptionView.{description_view}
use Rattle.pli_store.specs.views.GenerationView.{made_view}
use Rattle.pli_store.specs.views.StorageView.{with_storage}
use Rattle.pli_store.proofs.MakingLemmas.{made_misfit}
use Rattle.pli_store.proofs.storage.Storage.make.Goals as goal

pub returns-in-None-clause-answer : goal.returns-in-None-clause-answer
returns-in-None-clause-answer c = λ w vs begins.
    let room = c.if-not-has_room.ensures in
    made_misfit (description_view c.args.description.now) (made_view c.args.made) vs (with_storage c.args.self.now w) room.0 room.1 (rw c.in-None.is at begins)
