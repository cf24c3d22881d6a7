use Rattle.std.proofs.Common.{refl}
use Rattle.pli_store.proofs.storage.Storage.make_dummy_at_once.Goals as goal

pub make_number-requires-clause-held : goal.make_number-requires-clause-held
make_number-requires-clause-held c = rw c.if-precision-eq-USUAL_DIGITS.true at ((c.if-not-holds_number.ensures.0 refl).1)

pub make_number-requires-2-clause-held : goal.make_number-requires-2-clause-held
make_number-requires-2-clause-held c = (c.if-not-holds_number.ensures.0 refl).1
