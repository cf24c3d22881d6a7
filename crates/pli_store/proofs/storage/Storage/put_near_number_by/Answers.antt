use Rattle.std.proofs.Common.{refl}
use Rattle.pli_store.proofs.KnownLemmas.{usual_part}
use Rattle.pli_store.proofs.storage.Storage.put_near_number_by.Goals as goal

pub near_part_by-requires : goal.near_part_by-requires
near_part_by-requires c = (c.args.part.now.numeric c.if-not-part.false).0

pub put_number_there-requires-clause-number : goal.put_number_there-requires-clause-number
put_number_there-requires-clause-number c = usual_part c.args.part.now c.if-not-part.false

pub put_number_there-requires-clause-held : goal.put_number_there-requires-clause-held
put_number_there-requires-clause-held c = (c.if-not-holds_number.ensures.0 refl).1
