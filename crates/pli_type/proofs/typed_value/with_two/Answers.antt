use Rattle.std.proofs.Common.{◌∙◌, rules}
use Rattle.pli_type.proofs.TypedTrees.{operated_made}
use Rattle.pli_type.proofs.typed_value.with_two.Goals as goal

pub returns : goal.returns
returns c = operated_made c.args.operation c.in_ok-operands.operands ∙ search rules
