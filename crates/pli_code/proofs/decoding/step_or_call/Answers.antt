use Rattle.pli_program.specs.declared.instruction.Instruction.TheVariants.{Step}
use Rattle.pli_code.specs.Fields.{u4}
use Rattle.pli_code.specs.Instructions.{reader_of}
use Rattle.pli_code.proofs.OperandReading.{of_one}
use Rattle.pli_code.proofs.decoding.step_or_call.Goals as goal

pub returns-in-1 : goal.returns-in-1
unfolding reader_of
returns-in-1 c = rw c.in-1.is (of_one u4 Step _ _ _ c.word.ensures)
