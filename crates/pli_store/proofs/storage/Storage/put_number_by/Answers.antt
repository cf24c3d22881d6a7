use Rattle.std.proofs.Common.{refl}
use Rattle.pli_store.proofs.storage.Storage.put_number_by.Goals as goal

pub put_number_there-requires-clause-few : goal.put_number_there-requires-clause-few
put_number_there-requires-clause-few c = (c.if-not-holds_number.ensures.0 refl).0

pub put_number_there-requires-clause-held : goal.put_number_there-requires-clause-held
put_number_there-requires-clause-held c = (c.if-not-holds_number.ensures.0 refl).1
