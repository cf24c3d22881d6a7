use Rattle.pli_store.proofs.KnownLemmas.{pointer_part}
use Rattle.pli_store.proofs.storage.Storage.put_near_pointer_by.Goals as goal

pub near_part_by-requires : goal.near_part_by-requires
near_part_by-requires c = (c.args.part.now.pointing c.if-not-part.false).0

pub put_pointer_there-requires-clause-pointer : goal.put_pointer_there-requires-clause-pointer
put_pointer_there-requires-clause-pointer c = pointer_part c.args.part.now c.if-not-part.false
