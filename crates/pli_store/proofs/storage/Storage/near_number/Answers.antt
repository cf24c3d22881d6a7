use Rattle.pli_store.proofs.ReadParts.{otherwise}
use Rattle.pli_store.proofs.storage.Storage.near_number.Goals as goal

pub returns-in-None : goal.returns-in-None
returns-in-None c = λ w. otherwise c.element_number.result _ (λ none. tt) (c.element_number.ensures w)
