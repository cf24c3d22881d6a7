use Rattle.std.proofs.Common.{sym, ap, ◌∙◌}
use Rattle.pli_map.specs.views.DescriptionView.{description_view}
use Rattle.pli_store.specs.views.StorageView.{place_view, with_storage}
use Rattle.pli_store.proofs.MakingLemmas.{refused_alike}
use Rattle.pli_world.specs.Storage.{whole}
use Rattle.pli_world.specs.World.{Yields}
use Rattle.pli_stacks.proofs.initial.make_initial_of.Goals as goal

pub returns-in-Ok-clause-answer : goal.returns-in-Ok-clause-answer
returns-in-Ok-clause-answer c = λ w.
    let d = description_view c.args.kind.now.description.now in
    c.in-Ok.ensures.answer w
    ∙ ap (λ p. Yields p (with_storage c.make_next.new.storage w)) (sym (c.place.ensures ∙ ap (λ n. whole n d) c.next_handle-next.ensures))

pub returns-in-Err-clause-answer : goal.returns-in-Err-clause-answer
returns-in-Err-clause-answer c = λ w.
    refused_alike {T = Unit {0}} (λ _. whole c.args.storage.now.made (description_view c.args.kind.now.description.now)) place_view c.in-Err.fault _ _ _
    (c.in-Err.ensures.answer w)
