use Rattle.std.proofs.Common.{◌≡◌, length, Some, slice_get, refl, subst, arith}
use Rattle.std.proofs.lemmas.Option.{slice_get_read}
use Rattle.pli_store.specs.answers.Found.{StandsAt}
use Rattle.pli_store.specs.views.StorageView.{storage_view}
use Rattle.pli_store.proofs.Searches.{stands_at}
use Rattle.pli_store.proofs.storage.Storage.found_at_once.Goals as goal

pub returns-then-index-number : goal.returns-then-index-number
returns-then-index-number c =
    let items = c.args.self.now.generations.items in
    let here : slice_get items c.near_guess-guess.result ≡ Some c.index.result.now = slice_get_read items (length items) c.near_guess-guess.result c.index.result.now refl (omega arith) c.index.ensures in
    let same : c.index.result.now.number ≡ c.args.number = omega arith in
    subst (λ n. StandsAt (storage_view c.args.self.now) n c.near_guess-guess.result) same (stands_at items c.args.self.now.made c.args.self.now.rising c.near_guess-guess.result c.index.result.now here)
