use Rattle.std.proofs.Common.{SFits, w64, rules}
use Rattle.std.proofs.lemmas.Int.{to_z-of_z}
use Rattle.pli_store.proofs.storage.Storage.number_by.Goals as goal

pub returns : goal.returns
returns c =
    let x = c.number_there.result in
    let fits : SFits w64 x = search rules in
    rw (to_z-of_z w64 x fits) c.number_there.ensures
