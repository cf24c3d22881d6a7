use Rattle.pli_map.specs.views.DescriptionView.{description_view}
use Rattle.pli_store.specs.views.GenerationView.{made_view}
use Rattle.pli_store.specs.views.StorageView.{place_view, with_storage}
use Rattle.pli_store.proofs.MakingLemmas.{refused_alike}
use Rattle.pli_world.specs.Storage.{whole}
use Rattle.pli_stacks.proofs.YieldedAnswers.{made_next}
use Rattle.pli_stacks.proofs.initial.make_next_anew.Goals as goal

pub returns-in-Ok-clause-answer : goal.returns-in-Ok-clause-answer
returns-in-Ok-clause-answer c = λ w.
    made_next (description_view c.args.description.now) (made_view c.args.made) _ (with_storage c.args.storage.now w)
    (with_storage c.make_anew.new.storage w) (place_view c.in-Ok._place) (c.in-Ok.ensures.answer w)

pub returns-in-Err-clause-answer : goal.returns-in-Err-clause-answer
returns-in-Err-clause-answer c = λ w.
    refused_alike {U = Unit {0}} place_view (λ _. whole c.args.storage.now.made (description_view c.args.description.now)) c.in-Err.fault _ _ _
    (c.in-Err.ensures.answer w)
