use Rattle.pli_gen.proofs.NumbersFound.{numbers_are_found}
use Rattle.pli_gen.proofs.laws.numbers_are_found.Goals as goal

pub returns : goal.returns
returns c = numbers_are_found
