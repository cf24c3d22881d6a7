use Rattle.std.proofs.Common.{◌≡◌, length, Some, slice_get, refl, subst, arith, rules}
use Rattle.std.proofs.lemmas.List.Sorted.{answers_always}
use Rattle.std.proofs.lemmas.Option.{slice_get_read}
use Rattle.pli_store.specs.answers.Found.{StandsAt}
use Rattle.pli_store.specs.views.StorageView.{storage_view}
use Rattle.pli_store.proofs.Searches.{stands_at, searched}
use Rattle.pli_store.proofs.storage.Storage.find.Goals as goal

pub returns-then-index-number : goal.returns-then-index-number
returns-then-index-number c =
    let items = c.args.self.now.generations.items in
    let here : slice_get items c.args.guess ≡ Some c.index.result.now = slice_get_read items (length items) c.args.guess c.index.result.now refl (omega arith) c.index.ensures in
    let same : c.index.result.now.number ≡ c.args.number = omega arith in
    subst (λ n. StandsAt (storage_view c.args.self.now) n c.args.guess) same (stands_at items c.args.self.now.made c.args.self.now.rising c.args.guess c.index.result.now here)

pub returns : goal.returns
returns c =
    let facts = c.binary_search_by_key.ensures in
    let by_number = facts.position (λ g. g.number) (answers_always _ _ _ (λ f a r g called. search rules)) in
    rw (c.ok.ensures.value, ← c.deref.ensures.value) (searched c.deref.result.now c.args.self.now.made (rw c.deref.ensures.value c.args.self.now.rising) c.args.number c.binary_search_by_key.result facts.bound by_number)
