use Rattle.std.proofs.Common.{sym}
use Rattle.pli_code.proofs.VersionLemmas.{no_quotient}
use Rattle.pli_code.proofs.instruction.operation_stands.Goals as goal

pub returns-in_default : goal.returns-in_default
returns-in_default c = sym (no_quotient c.args.version c.args.operation c.in_default.not-Divide)
