use Rattle.std.proofs.Common.{◌≡◌, drop}
use Rattle.pli_declare.specs.Faults.{lesser}
use Rattle.pli_declare.specs.Resolution.{least}
use Rattle.pli_declare_faults.proofs.least.least.Given as goal

-- the least so far and that of what is left
abbrev pub invariant-loop-code : goal.invariant-loop-code
invariant-loop-code l = lesser l.least (least (drop l.code-index l.codes)) ≡ least l.codes
