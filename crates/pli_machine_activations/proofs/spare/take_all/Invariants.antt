use Rattle.std.proofs.Common.{vec_len}
use Rattle.pli_machine_activations.proofs.spare.take_all.Given as goal

-- how many are there still
abbrev pub decreases-operands : goal.decreases-operands
decreases-operands l = vec_len l.operands
