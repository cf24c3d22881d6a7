use Rattle.pli_code.proofs.decoding.instruction_of.Goals as goal

pub returns-in-None : goal.returns-in-None
returns-in-None c =
    let read = rw c.in-None.is at c.with_operands-instruction.ensures in
    read.is_read

pub returns-in-Some : goal.returns-in-Some
returns-in-Some c =
    let read = rw c.in-Some.is at c.with_operands-instruction.ensures in
    read.is_read
