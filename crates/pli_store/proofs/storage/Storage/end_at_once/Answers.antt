use Rattle.std.proofs.Common.{Some, arith, length, refl, slice_get, subst, ◌-◌, ◌<◌, ◌≡◌}
use Rattle.std.specs.Prelude.{vec_len}
use Rattle.std.proofs.lemmas.Option.{slice_get_read}
use Rattle.pli_store.specs.answers.Found.{StandsAt}
use Rattle.pli_store.specs.views.StorageView.{storage_view}
use Rattle.pli_store.proofs.Searches.{stands_at}
use Rattle.pli_store.proofs.storage.Storage.end_at_once.Goals as goal

pub end_kept-requires-clause-last : goal.end_kept-requires-clause-last
end_kept-requires-clause-last c =
    let items = c.args.self.now.generations.items in
    let last = c.in-Some.last in
    let newest = c.index-newest.result.now in
    let within : last < length items = omega (arith, c.len.ensures, c.in-Some.ensures) in
    let here : slice_get items last ≡ Some newest = slice_get_read items (length items) last newest refl within c.index-newest.ensures in
    let same : newest.number ≡ c.args.number = omega arith in
    let end : last ≡ vec_len c.args.self.now.generations - 1 = omega (arith, c.len.ensures, c.in-Some.ensures) in
    subst (λ at. StandsAt (storage_view c.args.self.now) c.args.number at) end
    (subst (λ n. StandsAt (storage_view c.args.self.now) n last) same (stands_at items c.args.self.now.made c.args.self.now.rising last newest here))
