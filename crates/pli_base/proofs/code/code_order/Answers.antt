use Rattle.pli_base.proofs.CodeOrder.{derived_order}
use Rattle.pli_base.proofs.code.code_order.Goals as goal

pub returns : goal.returns
returns c = derived_order
