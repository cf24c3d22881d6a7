use Rattle.std.proofs.Common.{◌∙◌}
use Rattle.pli_store.proofs.storage.Storage.short_number.Goals as goal

pub returns : goal.returns
returns c = c.in_ok-lone.ensures (c.if-place-from.false ∙ c.from.ensures)
