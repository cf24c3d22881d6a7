-- The worked examples compute.
use Rattle.std.proofs.Common.{refl}
use Rattle.pli_code.specs.Fields.{byte_at, number_at}
use Rattle.pli_code.specs.Instructions.{instruction}
use Rattle.pli_code.specs.examples.InstructionExamples.{NumberedSo, StarredSo}
use Rattle.pli_code.specs.examples.NamingExamples.{MovedSo, LookedUpSo}

pub numbered_so : NumberedSo
unfolding byte_at number_at instruction
numbered_so = (refl, refl, refl, refl, refl, refl, refl, refl, refl, refl, refl, refl, refl, refl, refl, refl)

pub starred_so : StarredSo
unfolding byte_at number_at instruction
starred_so = (refl, refl, refl, refl, refl, refl, refl, refl, refl, refl, refl, refl, refl, refl, refl, refl)

pub moved_so : MovedSo
moved_so = (refl, refl, refl, refl)

pub looked_up_so : LookedUpSo
looked_up_so = (refl, refl, refl, refl, refl, refl, refl, refl, refl, refl)
