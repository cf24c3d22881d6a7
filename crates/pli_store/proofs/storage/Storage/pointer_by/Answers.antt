use Rattle.std.proofs.Common.{refl}
use Rattle.pli_store.proofs.storage.Storage.pointer_by.Goals as goal

pub pointer_there-requires-clause-pointer : goal.pointer_there-requires-clause-pointer
pointer_there-requires-clause-pointer c = c.if-not-is_pointer.ensures.0 refl
