use Rattle.std.proofs.Common.{refl}
use Rattle.pli_store.proofs.storage.Storage.put_pointer_by.Goals as goal

pub put_pointer_there-requires-clause-pointer : goal.put_pointer_there-requires-clause-pointer
put_pointer_there-requires-clause-pointer c = c.if-not-is_pointer.ensures.0 refl
