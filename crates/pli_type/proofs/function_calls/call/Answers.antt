use Rattle.std.proofs.Common.{Some, ap, ◌∙◌, rules}
use Rattle.pli_type.proofs.TypedTrees.{operated_all}
use Rattle.pli_type.proofs.function_calls.call.Goals as goal

pub returns-in-Some-Some : goal.returns-in-Some-Some
returns-in-Some-Some c =
    ap (λ e. Some (record { expression = e; kind = c.in-Some-Some.kind })) (operated_all c.in-Some-Some.operation c.args.operands)
    ∙ search rules
