use Rattle.pli_value.proofs.PlaceLemmas.{index_is_first}
use Rattle.pli_value.proofs.laws.index_is_the_first_place.Goals as goal

pub returns : goal.returns
returns c = index_is_first
