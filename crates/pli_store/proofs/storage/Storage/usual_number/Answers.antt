use Rattle.std.proofs.Common.{◌∙◌}
use Rattle.std.proofs.lemmas.Option.{IfSome_then}
use Rattle.pli_store.proofs.storage.Storage.usual_number.Goals as goal

pub returns : goal.returns
returns c = IfSome_then c.lone_of.result c.lone_of.ensures (λ n lone. lone (c.if-place-from.false ∙ c.from.ensures))
