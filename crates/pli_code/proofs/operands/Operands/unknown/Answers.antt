use Rattle.std.proofs.Common.{refl}
use Rattle.pli_code.specs.declared.fault.DeckFault.TheVariants.{OutOfRange}
use Rattle.pli_program.specs.declared.instruction.Instruction.TheVariants.{Stop}
use Rattle.pli_code.specs.Fields.{unknown}
use Rattle.pli_code.proofs.OperandReading.{goes_wrong}
use Rattle.pli_code.proofs.operands.Operands.unknown.Goals as goal

pub returns : goal.returns
returns c = rw (c.failed.ensures.same, c.failed.ensures.first) (goes_wrong unknown c.args.self.now.fault c.args.self.now.rest.now Stop OutOfRange refl)
