use Rattle.std.proofs.Common.{SFits, w64, rules}
use Rattle.std.proofs.lemmas.Int.{to_z-of_z}
use Rattle.pli_store.proofs.storage.Storage.put_number_of_row.Goals as goal

pub returns-clause-fits : goal.returns-clause-fits
returns-clause-fits c =
    let fits : SFits w64 c.args.number = search rules in
    rw (to_z-of_z w64 c.args.number fits) at c.put_number_in.ensures.held
