use Rattle.std.proofs.Common.{rules}
use Rattle.std.proofs.lemmas.List.Sorted.{answers_always}
use Rattle.pli_members.specs.views.Fields.{next_version}
use Rattle.pli_members.proofs.SearchFinds.{searched}
use Rattle.pli_members.proofs.members.Members.place.Goals as goal

-- the closure gives an entry's name, and the slice is the store's entries
pub returns : goal.returns
returns c =
    let facts = c.binary_search_by_key.ensures in
    let by_name = facts.position (λ e. e.0) (answers_always _ _ _ (λ f a r g called. search rules)) in
    rw (← c.self.view_is, ← c.deref.ensures.value) (searched (record { entries = c.deref.result.now; next = next_version c.self.inside.next }) (rw c.deref.ensures.value c.self.invariant.ordered) c.args.name.now c.binary_search_by_key.result facts.bound by_name)
