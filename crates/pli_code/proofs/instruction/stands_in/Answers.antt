use Rattle.std.proofs.Common.{sym}
use Rattle.pli_code.proofs.VersionLemmas.{stands_everywhere}
use Rattle.pli_code.proofs.instruction.stands_in.Goals as goal

pub returns-in_default : goal.returns-in_default
returns-in_default c =
    let other = c.in_default in
    sym (stands_everywhere c.args.version c.args.instruction other.not-Operate other.not-SubscriptIn other.not-BoundOf other.not-MakeStringDummy other.not-FitToPlace)
