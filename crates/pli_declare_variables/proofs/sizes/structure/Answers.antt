use Rattle.pli_declare.specs.Descriptions.{members_made}
use Rattle.pli_declare_variables.proofs.SizeLemmas.{begins}
use Rattle.pli_declare_variables.proofs.sizes.structure.Goals as goal

pub loop-number-init : goal.loop-number-init
loop-number-init c = λ describe measured. begins c.empty.result c.empty.ensures.bytes c.empty.ensures.alignment (members_made describe c.args.members.now)
