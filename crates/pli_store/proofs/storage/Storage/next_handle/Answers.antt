use Rattle.std.proofs.Common.{arith}
use Rattle.std.proofs.lemmas.List.{length-map}
use Rattle.pli_store.specs.views.GenerationView.{generation_view}
use Rattle.pli_store.specs.views.StorageView.{storage_view}
use Rattle.pli_store.proofs.RisingNumbers.{rise_length}
use Rattle.pli_store.proofs.storage.Storage.next_handle.Goals as goal

pub overflow_cast-len : goal.overflow_cast-len
overflow_cast-len c =
    let few = rise_length 0 (storage_view c.args.self.now) c.args.self.now.made c.args.self.now.rising in
    let count = length-map c.args.self.now.generations.items generation_view in
    let owned = c.args.self.now.generations.ok.0 in
    omega (arith, few, count, owned, c.len.ensures)
