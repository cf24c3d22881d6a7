use Rattle.std.proofs.lemmas.Result.{err_from_is_err_and}
use Rattle.pli_store.specs.views.StorageView.{place_view, with_storage}
use Rattle.pli_store.proofs.AreaAnswers.{area_there}
use Rattle.pli_store.proofs.storage.Storage.use_area.Goals as goal

pub returns-in_err-_at : goal.returns-in_err-_at
returns-in_err-_at c = λ w.
    let p = err_from_is_err_and c.from_residual.result c.from_residual.ensures.1 in
    rw (p.1, p.2) (c.in_err-_at.ensures w)

pub returns : goal.returns
returns c = λ w.
    let s = c.in_ok-_at.ensures in
    (s.generation, area_there (place_view c.args.area) (with_storage c.args.self.now w) c.in_ok-_at._at s)
