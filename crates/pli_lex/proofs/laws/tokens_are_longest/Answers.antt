use Rattle.pli_lex.proofs.StandingIsFound.{longest}
use Rattle.pli_lex.proofs.laws.tokens_are_longest.Goals as goal

pub returns : goal.returns
returns c = longest
