use Rattle.pli_machine_perform.proofs.conditions.revert.Goals as goal

pub returns : goal.returns
returns c = λ u image put. c.revert.ensures image put
