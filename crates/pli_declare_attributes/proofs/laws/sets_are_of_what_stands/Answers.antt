use Rattle.pli_declare.proofs.BitLemmas.{has_all}
use Rattle.pli_declare_attributes.proofs.laws.sets_are_of_what_stands.Goals as goal

pub returns : goal.returns
returns c = has_all
