use Rattle.pli_store.proofs.ReadParts.{otherwise}
use Rattle.pli_store.proofs.storage.Storage.further_number.Goals as goal

pub returns : goal.returns
returns c = λ w. otherwise c.element_number.result _ (λ none. tt) (c.element_number.ensures w)
