use Rattle.pli_gen.proofs.TablesLookUp.{looked_up_is_unit_code}
use Rattle.pli_gen.proofs.laws.code_is_looked_up.Goals as goal

pub returns : goal.returns
returns c = looked_up_is_unit_code
