use Rattle.pli_store.proofs.ReadParts.{otherwise}
use Rattle.pli_store.proofs.storage.Storage.short_at.Goals as goal

pub short_in-requires : goal.short_in-requires
short_in-requires c = record { length = c.in-Some.ensures.length; few = c.in-Some.ensures.few }

pub returns-in-Some : goal.returns-in-Some
returns-in-Some c = λ w. otherwise c.short_in.result _ (λ none count few is. none) (c.short_in.ensures w)
