use Rattle.std.proofs.Common.{SFits, w64, rules}
use Rattle.std.proofs.lemmas.Int.{to_z-of_z}
use Rattle.pli_store.proofs.KnownLemmas.{usual_part}
use Rattle.pli_store.proofs.storage.Storage.near_number_by.Goals as goal

pub near_outside-requires : goal.near_outside-requires
near_outside-requires c = (c.args.part.now.numeric c.if-not-part.false).0

pub number_there-requires-clause-number : goal.number_there-requires-clause-number
number_there-requires-clause-number c = usual_part c.args.part.now c.if-not-part.false

pub returns : goal.returns
returns c =
    let x = c.number_there.result in
    let fits : SFits w64 x = search rules in
    rw (to_z-of_z w64 x fits) c.number_there.ensures
