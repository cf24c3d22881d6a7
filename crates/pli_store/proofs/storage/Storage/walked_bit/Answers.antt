use Rattle.pli_store.proofs.ReadParts.{otherwise}
use Rattle.pli_store.proofs.storage.Storage.walked_bit.Goals as goal

pub returns : goal.returns
returns c = λ w. otherwise c.bit_at.result _ (λ none. tt) (c.bit_at.ensures w)
