use Rattle.pli_store.proofs.KnownLemmas.{stands_by}
use Rattle.pli_store.proofs.storage.Storage.near_part_by.Goals as goal

pub returns : goal.returns
returns c = stands_by c.args.self.now c.args.part.now c.args.locator c.in_ok-at.at c.in_ok-at.ensures
