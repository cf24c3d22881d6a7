use Rattle.std.proofs.Common.{sym, ◌∙◌}
use Rattle.pli_machine_perform.proofs.OperationLemmas.{computes_with}
use Rattle.pli_machine_perform.proofs.operate.operate.Goals as goal

pub returns-in-1 : goal.returns-in-1
returns-in-1 c =
    computes_with c.args.operands.now.items c.operate_from.new.operands.items c.operate_from.result c.args.greatest c.args.operation 1
    (sym c.in-1.is ∙ c.arity.ensures) c.operate_from.ensures

pub returns-in-3 : goal.returns-in-3
returns-in-3 c =
    computes_with c.args.operands.now.items c.operate_by.new.operands.items c.operate_by.result c.args.greatest c.args.operation 3
    (sym c.in-3.is ∙ c.arity.ensures) c.operate_by.ensures
