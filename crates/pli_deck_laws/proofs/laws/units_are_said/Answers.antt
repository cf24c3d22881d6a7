use Rattle.pli_deck_laws.proofs.DecksSay.{units_are_said}
use Rattle.pli_deck_laws.proofs.laws.units_are_said.Goals as goal

pub returns : goal.returns
returns c = units_are_said
