use Rattle.pli_parse_declaration.proofs.DeclarationItemsAgain.{at_most_one}
use Rattle.pli_parse_declaration.proofs.laws.one_declaration.Goals as goal

pub returns : goal.returns
returns c = at_most_one
