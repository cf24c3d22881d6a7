use Rattle.std.proofs.Common.{length, ap, ◌∙◌}
use Rattle.std.proofs.lemmas.Result.{on_err_weaker}
use Rattle.pli_bytes.specs.Contents.{values_of}
use Rattle.pli_map.specs.views.DescriptionView.{description_view}
use Rattle.pli_store.specs.views.StorageView.{place_view, with_storage, SameStorage}
use Rattle.pli_store.proofs.AreaAnswers.{allocated_misfit, begins_misfit}
use Rattle.pli_store.proofs.storage.Storage.allocate_in.Goals as goal

pub allocate_copy_in-made-requires : goal.allocate_copy_in-made-requires
allocate_copy_in-made-requires c = ap length c.deref.ensures.value ∙ rw c.in-Some.is at c.requires

pub returns-in_default-clause-answer : goal.returns-in_default-clause-answer
returns-in_default-clause-answer c = λ w vs begins.
    let d = description_view c.args.description.now in
    allocated_misfit (place_view c.args.area) (with_storage c.args.self.now w) d vs (begins_misfit d c.args.initial vs c.in_default.not-Some begins)

pub returns-clause-answer : goal.returns-clause-answer
returns-clause-answer c = λ w vs begins.
    let held = rw c.in-Some.is at begins in
    c.allocate_copy_in-made.ensures.answer w vs (ap (values_of (description_view c.args.description.now)) c.deref.ensures.value ∙ held.0, held.1)

pub returns-clause-err : goal.returns-clause-err
returns-clause-err c =
    on_err_weaker c.allocate_copy_in-made.result
    (λ (s : SameStorage c.args.self.now c.allocate_copy_in-made.new.self). record { storage = s.storage; made = s.made })
    c.allocate_copy_in-made.ensures.err
