-- An instruction by what it names itself.
use Rattle.std.proofs.Common.{refl}
use Rattle.pli_program.specs.declared.instruction.Instruction.TheVariants as op
use Rattle.pli_program.specs.laws.NamingLaws.{NamedByItself}

pub named_by_itself : NamedByItself
named_by_itself (op.Step s) = refl
named_by_itself other = refl
