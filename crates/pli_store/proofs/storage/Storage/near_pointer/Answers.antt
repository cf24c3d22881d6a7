use Rattle.std.proofs.Common.{refl}
use Rattle.pli_store.proofs.storage.Storage.near_pointer.Goals as goal

pub pointer_part-requires : goal.pointer_part-requires
pointer_part-requires c = c.if-not-is_pointer.ensures.0 refl

pub returns : goal.returns
returns c = record { leads = c.in_ok-part.ensures; pointer = c.if-not-is_pointer.ensures.0 refl }
