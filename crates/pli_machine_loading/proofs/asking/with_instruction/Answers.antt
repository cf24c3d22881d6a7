use Rattle.std.proofs.Common.{true, sym, subst, ◌≡◌}
use Rattle.pli_code.specs.CodedInstruction.{Instruction}
use Rattle.pli_machine_loading.specs.answers.AskedForms.{is_asked}
use Rattle.pli_machine_loading.proofs.asking.with_instruction.Goals as goal

pub returns-in-MakeStringDummy-clause-one : goal.returns-in-MakeStringDummy-clause-one
returns-in-MakeStringDummy-clause-one c =
    subst (λ (i : Instruction). is_asked c.with.result i ≡ true) (sym c.in-MakeStringDummy.is) c.with.ensures.one

pub returns-in-MakeStringDummy-clause-others : goal.returns-in-MakeStringDummy-clause-others
returns-in-MakeStringDummy-clause-others c = c.with.ensures.others
