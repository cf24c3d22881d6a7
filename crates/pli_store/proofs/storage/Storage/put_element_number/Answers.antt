use Rattle.std.proofs.Common.{SFits, w64, rules}
use Rattle.std.proofs.lemmas.Int.{to_z-of_z}
use Rattle.pli_store.specs.views.StorageView.{place_view}
use Rattle.pli_store.proofs.PutAnswers.{number_refused}
use Rattle.pli_store.proofs.storage.Storage.put_element_number.Goals as goal

pub returns-in-Some-number_part-clause-refused : goal.returns-in-Some-number_part-clause-refused
returns-in-Some-number_part-clause-refused c = λ e.
    let fits : SFits w64 c.args.number = search rules in
    let whole = to_z-of_z w64 c.args.number fits in
    number_refused c.args.self.now (place_view c.args.place) c.in-Some.precision c.args.number c.in-Some.ensures c.put_number_in.result (rw whole at c.put_number_in.ensures.held) e
