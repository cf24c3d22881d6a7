use Rattle.std.proofs.Common.{refl}
use Rattle.pli_store.proofs.storage.Storage.put_pointer.Goals as goal

pub pointer_part-requires : goal.pointer_part-requires
pointer_part-requires c = c.if-not-is_pointer.ensures.0 refl

pub put_pointer_in-requires-clause-description : goal.put_pointer_in-requires-clause-description
put_pointer_in-requires-clause-description c = c.if-not-is_pointer.ensures.0 refl

pub put_far_pointer-requires : goal.put_far_pointer-requires
put_far_pointer-requires c = c.if-not-is_pointer.ensures.0 refl

pub returns-in-Some-clause-refused : goal.returns-in-Some-clause-refused
returns-in-Some-clause-refused c = λ e is. c.put_pointer_in.ensures.refused e

pub returns-in-None-clause-refused : goal.returns-in-None-clause-refused
returns-in-None-clause-refused c = λ e is. c.put_far_pointer.ensures.refused e
