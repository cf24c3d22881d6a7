use Rattle.pli_parse_declaration.proofs.DeclarationEnds.{items_end}
use Rattle.pli_parse_declaration.proofs.laws.longest_items.Goals as goal

pub returns-clause-left : goal.returns-clause-left
returns-clause-left c = items_end
