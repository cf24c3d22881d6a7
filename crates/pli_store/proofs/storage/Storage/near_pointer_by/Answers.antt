use Rattle.pli_store.proofs.KnownLemmas.{pointer_part}
use Rattle.pli_store.proofs.storage.Storage.near_pointer_by.Goals as goal

pub near_outside-requires : goal.near_outside-requires
near_outside-requires c = (c.args.part.now.pointing c.if-not-part.false).0

pub pointer_there-requires-clause-pointer : goal.pointer_there-requires-clause-pointer
pointer_there-requires-clause-pointer c = pointer_part c.args.part.now c.if-not-part.false
